-- The call's number and what it leaves in its buffers are the ones due.
use native.Mathlib.Omega.{arith}
use Rattle.replay_meshes.specs.Meshes.{quadrature_into}
use Rattle.replay_meshes.proofs.quadratures.quadrature_into.Goals as goal

pub held-e-requires : goal.held-e-requires
held-e-requires c = omega (arith, c.requires, c)

pub returns : goal.returns
unfolding quadrature_into
returns c =
    let e = c.triangle_mesh_quadrature_points-outcome.ensures in
    rw (
      ← e.number,
      ← e.x,
      ← e.y,
      ← e.z,
      ← e.weights,
      ← c.same_refusal-a.ensures,
      ← c.held-b.ensures,
      ← c.held-c.ensures,
      ← c.held-d.ensures,
      ← c.held-e.ensures,
    )

pub shape_of-px : goal.shape_of-px
shape_of-px c = c.triangle_mesh_quadrature_points-outcome.auto.px

pub shape_of-py : goal.shape_of-py
shape_of-py c = c.triangle_mesh_quadrature_points-outcome.auto.py

pub shape_of-pz : goal.shape_of-pz
shape_of-pz c = c.triangle_mesh_quadrature_points-outcome.auto.pz

pub shape_of-pw : goal.shape_of-pw
shape_of-pw c = c.triangle_mesh_quadrature_points-outcome.auto.pw
