-- The output is filled from the front, one row's flux a turn.
use lib.ListN.{length}
use Rattle.lists.proofs.Runs.{RunTo}
use Rattle.linkage.specs.Flux.{row_flux}
use Rattle.linkage.proofs.flux.fill_flux.Given as goal

abbrev pub invariant-loop-i : goal.invariant-loop-i
invariant-loop-i l = RunTo l.initial.out 0 (length l.initial.out) (row_flux l.map l.coefficients) l.i l.out
