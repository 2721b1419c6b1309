-- After j turns the sum is that over the first j points, and the first j places of held have their share.
use mathlib.Core.Path.{◌≡◌}
use Prim.Native.Nat.{ℕ, ◌+◌}
use Rattle.binary64.specs.Binary64.{at, ◌⊘◌}
use Rattle.lists.specs.Sums.{sum_to}
use Rattle.pair_far_rule.specs.Far as Spec
use Rattle.pair_far_rule.proofs.share_row.Given as goal

abbrev pub invariant-loop-j : goal.invariant-loop-j
invariant-loop-j l = (l.out ≡ sum_to (λ (i : ℕ). at l.w i ⊘ at l.d (l.start + i)) l.j)
    × (l.held ≡ Spec.shared l.initial.held l.v (λ (i : ℕ). at l.d (l.start + i)) l.j)
