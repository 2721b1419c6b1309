-- After i panels the first i·count numbers of each column are those of the definition; at the end all are. Each of the four columns by the same laws of a column filled panel after panel.
use Prim.Native.Nat.{ℕ}
use lib.Ieee.{Float}
use Rattle.binary64.specs.Binary64.{at}
use Rattle.tri.specs.Mapping.{Tri}
use Rattle.tri.specs.Quadrature.{quadrature_count}
use Rattle.tri.specs.declared.quadrature.QuadratureKind.{QuadratureKind}
use Rattle.mesh.specs.Columns.{viewed}
use Rattle.mesh.specs.Mesh.{ntri}
use Rattle.mesh_points.specs.QuadraturePoints.{quadrature_point, quadrature_weight}
use Rattle.mesh_points.proofs.Panels.{PanelsTo}
use Rattle.mesh_points.proofs.quadrature_points.fill_points.Given as goal

abbrev pub coordinate : QuadratureKind → ℕ → Tri → ℕ → Float
coordinate kind axis t k = at (quadrature_point kind t k) axis

abbrev pub invariant-loop-i : goal.invariant-loop-i
invariant-loop-i l = PanelsTo (viewed l.mesh) (coordinate l.kind 0) (quadrature_count l.kind) (ntri (viewed l.mesh)) l.initial.px l.i l.px
    × PanelsTo (viewed l.mesh) (coordinate l.kind 1) (quadrature_count l.kind) (ntri (viewed l.mesh)) l.initial.py l.i l.py
    × PanelsTo (viewed l.mesh) (coordinate l.kind 2) (quadrature_count l.kind) (ntri (viewed l.mesh)) l.initial.pz l.i l.pz
    × PanelsTo (viewed l.mesh) (quadrature_weight l.kind) (quadrature_count l.kind) (ntri (viewed l.mesh)) l.initial.pw l.i l.pw
