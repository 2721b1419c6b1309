-- The sums over one point, written out.
use Rattle.lists.specs.Sums.{running_sum}
use Rattle.pair_far_rule.specs.Far as Spec
use Rattle.pair_far_rule.proofs.far_one.Goals as goal

pub returns : goal.returns
unfolding Spec.far_shared running_sum Spec.forward Spec.held_to Spec.shared Spec.distances
returns c = rw (c.norm3-d.ensures, c.sub3.ensures, c.point-2.ensures, c.point.ensures)
