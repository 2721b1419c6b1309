-- The distance of the two boxes, by its contract.
use Rattle.panel_distance.proofs.Boxes.{bounds_apart}
use Rattle.panel_distance.proofs.distance.triangle_aabb_distance_squared.Goals as goal

pub returns : goal.returns
returns c = rw (c.distance_squared.ensures, c.of.ensures, c.of-2.ensures) (bounds_apart c.args.a c.args.b)
