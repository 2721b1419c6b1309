-- After i panels the first i·count numbers of each column are those of the definition; at the end all are. Each of the four columns by the same laws of a column filled panel after panel.
use mathlib.Core.Path.{◌≡◌, ap}
use Prim.Native.Nat.{ℕ, ◌<◌, ◌*◌}
use native.Mathlib.Omega.{arith}
use Rattle.mesh.specs.Columns.{viewed}
use Rattle.mesh.specs.Mesh.{ntri}
use Rattle.mesh_points.specs.QuadraturePoints.{mesh_points, mesh_weights}
use Rattle.mesh_points.proofs.Panels.{panel_more, panels_end}
use Rattle.mesh_points.proofs.quadrature_points.fill_points.Goals as goal

pub loop-i-preserved : goal.loop-i-preserved
loop-i-preserved c =
    let below : c.loop-i.i < ntri (viewed c.args.mesh.now) = omega (arith, c.ntri-i-end.ensures, c.loop-i-test.true) in
    let l = c.loop-i in
    let h = below in
    let k = ap (λ (n : ℕ). l.i * n) c.quadrature_count-count.ensures in
    let t = c.triangle_nodes.ensures in
    let e = c.fill_panel.ensures in
    (panel_more l.invariant.0 h k t e.x, panel_more l.invariant.1 h k t e.y, panel_more l.invariant.2 h k t e.z, panel_more l.invariant.3 h k t e.weights)

pub returns : goal.returns
unfolding mesh_points mesh_weights
returns c =
    let l = c.loop-i in
    let e : l.i ≡ ntri (viewed c.args.mesh.now) = omega (arith, c.ntri-i-end.ensures, c.loop-i-test.false, l.invariant.0.below) in
    record { x = panels_end l.invariant.0 e; y = panels_end l.invariant.1 e; z = panels_end l.invariant.2 e; weights = panels_end l.invariant.3 e }
