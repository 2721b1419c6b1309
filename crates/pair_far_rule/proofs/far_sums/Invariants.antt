-- After i turns the sum is that over the first i rows of the distances, and held has their shares.
use mathlib.Core.Path.{◌≡◌}
use Rattle.lists.specs.Sums.{sum_to}
use Rattle.pair_far_rule.specs.Far.{forward_by, held_by}
use Rattle.pair_far_rule.proofs.far_sums.Given as goal

abbrev pub invariant-loop-i : goal.invariant-loop-i
invariant-loop-i l = (l.out ≡ sum_to (forward_by l.count l.w l.v l.d) l.i) × (l.held ≡ held_by l.count l.v l.d l.i)
