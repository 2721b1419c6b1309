-- The targets before the first pair with a flagged panel add nothing; if there is no such pair, none does.
use mathlib.Core.Path.{refl, ◌∙◌}
use Prim.Native.Nat.{◌<◌}
use native.Mathlib.Omega.{arith}
use Rattle.mesh.specs.Mesh.{Mesh, nnode, ntri}
use Rattle.mesh.specs.Columns.{viewed}
use Rattle.coupling.specs.Block.{mutual_inductance_block}
use Rattle.scatter.specs.Renewal.{marked}
use Rattle.lists.proofs.First.{next_above}
use Rattle.pair_loops.proofs.Loops.{target_next, target_end}
use Rattle.pair_loops.proofs.Pairs.add_source.Goals as goal

pub cached_panel-panel-requires-clause-j_in_bounds : goal.cached_panel-panel-requires-clause-j_in_bounds
cached_panel-panel-requires-clause-j_in_bounds c =
    let k : c.args.i < ntri (viewed c.args.self.now.mesh) = omega (arith, c.if-j-ntri.true, c.requires.i_le_first, next_above _ _ _ c.next_named-j.ensures) in
    (k, c.requires.ready.none_missing c.args.i k)

pub add_targets-requires-clause-i_le_first : goal.add_targets-requires-clause-i_le_first
add_targets-requires-clause-i_le_first c = omega (arith, c.requires.i_le_first, next_above _ _ _ c.next_named-j.ensures)

pub returns-then-j-ntri : goal.returns-then-j-ntri
returns-then-j-ntri c =
    let a = c.args in
    let m : Mesh = viewed a.self.now.mesh in
    let s = c.requires.scanned in
    let n = c.next_named-j in
    c.add_targets.ensures
    ∙ target_next (marked a.self.now.marks.now) (nnode m) (mutual_inductance_block a.self.now.kind) m a.self.now.flagged.set.marks.now a.i a.first (ntri m) n.result a.out.now s.flags_made c.requires.i_le_first (rw s.counted at n.ensures) refl

pub returns-else-j-ntri : goal.returns-else-j-ntri
returns-else-j-ntri c =
    let a = c.args in
    let m : Mesh = viewed a.self.now.mesh in
    let f = mutual_inductance_block a.self.now.kind in
    let s = c.requires.scanned in
    let n = c.next_named-j in
    target_end (marked a.self.now.marks.now) (nnode m) f m a.i n.result (ntri m) a.out.now (omega arith)
    (target_next (marked a.self.now.marks.now) (nnode m) f m a.self.now.flagged.set.marks.now a.i a.first (ntri m) n.result a.out.now s.flags_made c.requires.i_le_first (rw s.counted at n.ensures) refl)
