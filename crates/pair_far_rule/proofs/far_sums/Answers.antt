-- After i turns the sum is that over the first i rows of the distances, and held has their shares.
use mathlib.Core.Path.{◌≡◌, refl}
use Prim.Native.Nat.{◌<◌}
use native.Mathlib.Nat.{le_trans}
use native.Mathlib.Omega.{arith}
use Rattle.point_distances.proofs.Turns.{pairs_fit, row_fits}
use Rattle.lists.specs.Sums.{running_sum}
use Rattle.lists.proofs.Sums.{sum_more}
use Rattle.pair_far_rule.specs.Far.{forward_by, held_by, far_by}
use Rattle.pair_far_rule.proofs.Points.{held_next}
use Rattle.pair_far_rule.proofs.far_sums.Goals as goal

pub loop-i-init : goal.loop-i-init
unfolding running_sum held_by
loop-i-init c = (refl, refl)

pub overflow_mul-i : goal.overflow_mul-i
overflow_mul-i c =
    let h : c.loop-i.i < c.args.count = omega arith in
    omega (arith, row_fits c.loop-i.i c.args.count c.args.count h, pairs_fit c.args.count c.requires)

pub share_row-requires : goal.share_row-requires
share_row-requires c =
    let h : c.loop-i.i < c.args.count = omega arith in
    (c.requires, le_trans (row_fits c.loop-i.i c.args.count c.args.count h) (pairs_fit c.args.count c.requires))

pub loop-i-preserved : goal.loop-i-preserved
unfolding forward_by
loop-i-preserved c =
    let l = c.loop-i in
    (rw (sum_more, ← l.invariant.0, c.share_row.ensures.0), rw (held_next, ← l.invariant.1) c.share_row.ensures.1)

pub returns : goal.returns
unfolding far_by
returns c =
    let l = c.loop-i in
    let e : l.i ≡ c.args.count = omega arith in
    rw (c.weighted.ensures, l.invariant.0, l.invariant.1, e)
