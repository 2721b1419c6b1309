-- `psi` is the sum of as many products as there were turns.
use mathlib.Core.Path.{◌≡◌}
use lib.ListN.{length}
use Rattle.linkage.specs.Flux.{flux_to}
use Rattle.linkage.proofs.flux.flux_of_row.Given as goal

abbrev pub invariant-loop-entry : goal.invariant-loop-entry
invariant-loop-entry l = l.psi ≡ flux_to l.row l.coefficients (length l.yielded)
