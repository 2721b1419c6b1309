-- Off the plane the numbers of each step at one point, by their contracts, the last call first; in it each point alone.
use Rattle.potential.specs.Potential.{less_solid_angle, signed_solid_angle, solid_angle}
use Rattle.potential_lanes.proofs.less_solid_angles.Goals as goal

pub returns-then-any : goal.returns-then-any
unfolding less_solid_angle signed_solid_angle solid_angle
returns-then-any c i m =
    rw (
      c.less_doubled.ensures i m,
      c.atan2s.ensures i m,
      c.denominators-bottom.ensures i m,
      c.triple_products-top.ensures i m,
      c.vectors_from-a.ensures i m,
      c.vectors_from-b.ensures i m,
      c.vectors_from-c.ensures i m,
    )
