-- What is left of the sources, added to the matrix as it stands, makes what all of them make at the start.
use mathlib.Core.Path.{◌≡◌}
use Prim.Native.Nat.{◌-◌}
use Rattle.mesh.specs.Mesh.{nnode}
use Rattle.mesh.specs.Columns.{viewed}
use Rattle.coupling.specs.Block.{mutual_inductance_block}
use Rattle.scatter.specs.Renewal.{renewing, marked}
use Rattle.pair_loops.specs.Additions.{source_entries}
use Rattle.pair_loops.proofs.Pairs.add_sources.Given as goal

abbrev pub invariant-loop-i : goal.invariant-loop-i
invariant-loop-i l = renewing (marked l.self.marks.now) (nnode (viewed l.self.mesh)) l.out (source_entries (mutual_inductance_block l.self.kind) (viewed l.self.mesh) l.i (l.count - l.i))
    ≡ renewing (marked l.self.marks.now) (nnode (viewed l.self.mesh)) l.initial.out (source_entries (mutual_inductance_block l.self.kind) (viewed l.self.mesh) 0 l.count)
