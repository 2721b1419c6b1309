-- After k turns the first k points from index start are written; each of the four columns by the same laws of a column that is run to k.
use mathlib.Core.Path.{ap, ◌∙◌}
use mathlib.Core.List.{List}
use Prim.Native.Nat.{◌<◌}
use native.Mathlib.Omega.{arith}
use lib.Ieee.{Float}
use Rattle.binary64.specs.Binary64.{at, ◌⊗◌}
use Rattle.tri.specs.Quadrature.{quadrature_count, quadrature_row}
use Rattle.lists.proofs.Runs.{one_further}
use Rattle.mesh_points.specs.QuadraturePoints.{quadrature_weight}
use Rattle.mesh_points.proofs.quadrature_points.fill_panel.Goals as goal

pub loop-k-preserved : goal.loop-k-preserved
unfolding quadrature_weight
loop-k-preserved c =
    let below : c.loop-k.k < quadrature_count c.args.kind = omega (arith, c.quadrature_count-count.ensures, c.loop-k-test.true) in
    let l = c.loop-k in
    let h = below in
    let e = c.store_point.ensures in
    let p = c.quadrature_point-point.ensures in
    let w = c.quadrature_weight-weight.ensures ∙ ap (λ (v : Float). at (quadrature_row c.args.kind l.k) 0 ⊗ v) c.area-area.ensures in (
      one_further l.invariant.0 h e.x (ap (λ (v : List Float). at v 0) p),
      one_further l.invariant.1 h e.y (ap (λ (v : List Float). at v 1) p),
      one_further l.invariant.2 h e.z (ap (λ (v : List Float). at v 2) p),
      one_further l.invariant.3 h e.weights w,
    )
