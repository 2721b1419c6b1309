-- At each point the three edges and the solid angle, by their contracts, the last call first.
use Rattle.potential.specs.Potential.{scalar_potential, distance_from_plane}
use lib.ListN.{get_or-replicate}
use lib.Ieee.{nan}
use Rattle.binary64.specs.Binary64.{plus_zero}
use Rattle.potential_lanes.proofs.scalar_potentials.Goals as goal

pub returns : goal.returns
unfolding scalar_potential distance_from_plane
returns c i m =
    rw (
      c.less_solid_angles.ensures i m,
      c.add_edge-value.ensures i m,
      c.add_edge-second.ensures i m,
      c.add_edge-first.ensures i m,
      c.distances_from_plane-d.ensures i m,
      get_or-replicate 7 i plus_zero nan m,
    )
