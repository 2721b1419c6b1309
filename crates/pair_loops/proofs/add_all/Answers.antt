-- Some panel is flagged, the numbers are cached and every source added; or none is, and nothing is to be added.
use native.Mathlib.Omega.{arith}
use Rattle.mesh.specs.Mesh.{Mesh, nnode, ntri}
use Rattle.mesh.specs.Columns.{viewed}
use Rattle.coupling.specs.Block.{mutual_inductance_block}
use Rattle.scatter.specs.Renewal.{marked}
use Rattle.pair_loops.proofs.Loops.{no_sources}
use Rattle.scatter.proofs.Flags.{none-flagged}
use Rattle.pair_loops.proofs.add_all.Goals as goal

pub returns-else-next_named-ntri : goal.returns-else-next_named-ntri
returns-else-next_named-ntri c =
    let a = c.args in
    let m : Mesh = viewed a.mesh.now in
    let s = c.requires.scanned in
    let n = c.next_named in
    no_sources (marked a.marks.now) (nnode m) (mutual_inductance_block a.kind) m a.out.now (none-flagged m a.marks.now a.flagged.now.set.marks.now n.result s.flags_made (rw s.counted at n.ensures) (omega arith)) (ntri m) 0 (omega arith)
