-- What a call that is done has: an accepted mesh and outputs of one number a point.
use mathlib.Core.Path.{◌≡◌}
use mathlib.Core.Logic.{◌↔◌}
use mathlib.Core.Bool.{false}
use mathlib.Core.List.{List}
use Prim.Native.Nat.{ℕ, ◌*◌}
use lib.Ieee.{Float}
use lib.ListN.{length}
use Rattle.refusal.proofs.Tests.{or_off, differ_off}
use Rattle.lists.proofs.Columns.{columns_off}
use Rattle.mesh.specs.Mesh.{Mesh, ntri, max_nodes, max_panels}
use Rattle.mesh.proofs.Refusals.{mesh-accepted}
use Rattle.tri.specs.Quadrature.{quadrature_count}
use Rattle.tri.specs.declared.quadrature.QuadratureKind.{QuadratureKind}
use Rattle.mesh_points.specs.QuadraturePoints.{point_columns_differ, PointColumnsDue, point_checks, points_refusal, PointsReady}

pub point-columns_off : (n a b c d : ℕ) → (point_columns_differ n a b c d ≡ false) ↔ PointColumnsDue n a b c d
point-columns_off n a b c d = (
  (λ e. let o = or_off _ _ e in record { coordinates = (columns_off n a b c).0 o.0; weights = (differ_off d n).0 o.1 }),
  λ h. rw ((columns_off n a b c).1 h.coordinates, (differ_off d n).1 h.weights),
)

pub points_ready : (kind : QuadratureKind) (m : Mesh) (a b c d : List Float) → points_refusal kind m (length a) (length b) (length c) (length d) ≡ 0 → PointsReady kind m a b c d
unfolding points_refusal
points_ready kind m a b c d e =
    let w = mesh-accepted max_nodes max_panels m (point_checks kind (ntri m) (length a) (length b) (length c) (length d)) tt e in
    record { accepted = w.0; due = (point-columns_off (ntri m * quadrature_count kind) (length a) (length b) (length c) (length d)).0 w.1.0 }
