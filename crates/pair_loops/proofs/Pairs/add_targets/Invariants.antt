-- What is left of the targets, added to the matrix as it stands, makes what all of them make at the start: what the scan passes over adds nothing.
use mathlib.Core.Path.{◌≡◌}
use Prim.Native.Nat.{◌≤◌, ◌-◌}
use Rattle.mesh.specs.Mesh.{nnode, ntri}
use Rattle.mesh.specs.Columns.{viewed}
use Rattle.coupling.specs.Block.{mutual_inductance_block}
use Rattle.scatter.specs.Renewal.{renewing, marked}
use Rattle.pair_loops.specs.Additions.{target_entries}
use Rattle.pair_loops.proofs.Pairs.add_targets.Given as goal

abbrev pub invariant-loop-j : goal.invariant-loop-j
invariant-loop-j l = (l.i ≤ l.j)
    × (renewing (marked l.self.marks.now) (nnode (viewed l.self.mesh)) l.out (target_entries (mutual_inductance_block l.self.kind) (viewed l.self.mesh) l.i l.j (ntri (viewed l.self.mesh) - l.j))
    ≡ renewing (marked l.self.marks.now) (nnode (viewed l.self.mesh)) l.initial.out (target_entries (mutual_inductance_block l.self.kind) (viewed l.self.mesh) l.i l.first (ntri (viewed l.self.mesh) - l.first)))

abbrev pub decreases-loop-j : goal.decreases-loop-j
decreases-loop-j l = ntri (viewed l.self.mesh) - l.j
