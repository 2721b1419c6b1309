-- The flags below i are made.
use Rattle.mesh.specs.Columns.{viewed_panels}
use Rattle.scatter.specs.Flags.{Flagged}
use Rattle.scatter.proofs.flag_panels.Given as goal

abbrev pub invariant-loop-i : goal.invariant-loop-i
invariant-loop-i l = Flagged l.i (viewed_panels l.panels) l.marks l.flags
