-- The block of the cached numbers is that of the corners, and is added.
use Rattle.mesh.specs.Mesh.{Mesh, nnode}
use Rattle.mesh.specs.Columns.{viewed}
use Rattle.coupling.specs.Block.{mutual_inductance_block}
use Rattle.scatter.specs.Renewal.{marked}
use Rattle.pair_loops.proofs.Loops.{pair_added}
use Rattle.cached_panels.proofs.Caching.{kept_source, kept_target, kept_block}
use Rattle.pair_loops.proofs.Pairs.add_pair.Goals as goal

pub pair_block-b-requires : goal.pair_block-b-requires
pair_block-b-requires c =
    let a = c.args in
    let m : Mesh = viewed a.self.now.mesh in
    record { known_source = kept_source a.self.now.kind m a.i a.source c.requires.source_value; known = kept_target m a.j c.cached_panel-target.result c.cached_panel-target.ensures }

pub returns : goal.returns
returns c =
    let a = c.args in
    let m : Mesh = viewed a.self.now.mesh in
    let i = c.triangle_indices-s in
    let j = c.triangle_indices-t in
    let t = c.cached_panel-target in
    let b = c.pair_block-b in
    pair_added (marked a.self.now.marks.now) (nnode m) (mutual_inductance_block a.self.now.kind) m a.i a.j i.result j.result b.result a.out.now i.ensures j.ensures
    (kept_block a.self.now.kind m a.i a.source c.requires.source_value a.j t.result b.result t.ensures b.ensures) (rw c.nnode.ensures at c.scatter_pair.ensures)
