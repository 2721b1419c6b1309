-- `out` is x with as many products added as there were turns.
use mathlib.Core.Path.{◌≡◌}
use lib.ListN.{length}
use Rattle.binary64.specs.Binary64.{◌⊗◌, at}
use Rattle.lists.specs.Sums.{running_sum}
use Rattle.linkage.proofs.energy.add_row.Given as goal

abbrev pub invariant-loop-entry : goal.invariant-loop-entry
invariant-loop-entry l = l.out ≡ running_sum l.x (λ j. l.source ⊗ at l.row j ⊗ at l.t j) (length l.yielded)
