-- After j turns the sum is that over the first j places; a turn adds the next.
use mathlib.Core.Path.{◌≡◌}
use Prim.Native.Nat.{ℕ}
use Rattle.lists.specs.Sums.{sum_to}
use Rattle.binary64.specs.Binary64.{at, ◌⊗◌}
use Rattle.panel_points.proofs.weighted.Given as goal

abbrev pub invariant-loop-j : goal.invariant-loop-j
invariant-loop-j l = l.out ≡ sum_to (λ (i : ℕ). at l.w i ⊗ at l.held i) l.j
