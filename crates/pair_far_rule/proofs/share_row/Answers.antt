-- After j turns the sum is that over the first j points, and the first j places of held have their share.
use mathlib.Core.Path.{◌≡◌, refl}
use native.Mathlib.Omega.{arith}
use Rattle.lists.specs.Sums.{running_sum}
use Rattle.lists.proofs.Sums.{sum_more}
use Rattle.pair_far_rule.specs.Far as Spec
use Rattle.pair_far_rule.proofs.Points.{shared_more}
use Rattle.pair_far_rule.proofs.share_row.Goals as goal

pub loop-j-init : goal.loop-j-init
unfolding running_sum Spec.shared
loop-j-init c = (refl, refl)

pub loop-j-preserved : goal.loop-j-preserved
loop-j-preserved c =
    let l = c.loop-j in
    (rw (sum_more, ← l.invariant.0), rw (shared_more, ← l.invariant.1))

pub returns : goal.returns
returns c =
    let l = c.loop-j in
    let e : l.j ≡ c.args.count = omega arith in
    (rw (← e) l.invariant.0, rw (← e) l.invariant.1)
