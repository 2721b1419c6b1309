-- After j turns the sum is that over the first j places; a turn adds the next.
use mathlib.Core.Path.{◌≡◌, refl}
use native.Mathlib.Omega.{arith}
use Rattle.lists.specs.Sums.{running_sum}
use Rattle.lists.proofs.Sums.{sum_more}
use Rattle.panel_points.proofs.weighted.Goals as goal

pub loop-j-init : goal.loop-j-init
unfolding running_sum
loop-j-init c = refl

pub loop-j-preserved : goal.loop-j-preserved
loop-j-preserved c = rw (sum_more, ← c.loop-j.invariant)

pub returns : goal.returns
returns c =
    let l = c.loop-j in
    let e : l.j ≡ c.args.count = omega arith in
    rw (← e) l.invariant
