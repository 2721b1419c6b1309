-- Each of the seven numbers is the definition's.
use Rattle.std.proofs.Common.{rules, arith}
use Rattle.std.proofs.lemmas.Grind.{common_steps}
use Rattle.panel_points.specs.Points as Spec
use Rattle.panel_points.proofs.Seven.{seven_is}
use Rattle.panel_points.proofs.along.Goals as goal

pub returns : goal.returns
unfolding Spec.along
returns c = seven_is _ _ (search rules) (grind (arith, common_steps))
