-- What is left of the sources, added to the matrix as it stands, makes what all of them make at the start.
use Rattle.mesh.specs.Mesh.{Mesh, nnode}
use Rattle.mesh.specs.Columns.{viewed}
use Rattle.coupling.specs.Block.{mutual_inductance_block}
use Rattle.scatter.specs.Renewal.{marked}
use Rattle.pair_loops.proofs.Loops.{source_turn, source_end}
use Rattle.pair_loops.proofs.Pairs.add_sources.Goals as goal

pub loop-i-preserved : goal.loop-i-preserved
loop-i-preserved c =
    let a = c.args in
    let l = c.loop-i in
    let m : Mesh = viewed a.self.now.mesh in
    source_turn (marked a.self.now.marks.now) (nnode m) (mutual_inductance_block a.self.now.kind) m l.i a.count l.out c.loop-i-test.true c.add_source.ensures l.invariant

pub returns : goal.returns
returns c =
    let a = c.args in
    let l = c.loop-i in
    let m : Mesh = viewed a.self.now.mesh in
    source_end (marked a.self.now.marks.now) (nnode m) (mutual_inductance_block a.self.now.kind) m l.i a.count l.out c.loop-i-test.false l.invariant
