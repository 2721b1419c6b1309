-- The shared sums are the two directions of the far rule. Forward term by term; backward each distance is the other direction's, taken the other way.
use mathlib.Core.Path.{◌≡◌, ◌∙◌}
use Prim.Native.Nat.{ℕ, ◌<◌}
use Rattle.binary64.specs.Binary64.{◌⊗◌, ◌⊘◌, at}
use Rattle.math.specs.Math.{Vec, norm3, sub3}
use Rattle.tri.specs.Mapping.{Tri, area, map_point}
use Rattle.tri.specs.Quadrature.{quadrature_row, quadrature_count}
use Rattle.tri.specs.declared.quadrature.QuadratureKind.{QuadratureKind}
use Rattle.coupling.specs.Coupling.{integral_row, potential_row, triangle_scalar_potential_regular, geometric_coupling_regular, triangle_geometric_coupling_regular_symmetric}
use Rattle.lists.specs.Sums.{sum_to}
use Rattle.panel_points.specs.Points.{points_of}
use Rattle.panel_points.specs.declared.WeightedPoints.{WeightedPoints}
use Rattle.lists.proofs.Sums.{sum_same}
use Rattle.panel_points.proofs.Places.{few, weight_at, point_at}
use Rattle.pair_far_rule.specs.Far.{distances, between, held_to, forward, far_shared}
use Rattle.pair_far_rule.proofs.Mirror.{distance_mirror}
use Rattle.pair_far_rule.proofs.Sums.{held_at}

module _ (kind : QuadratureKind) where
  -- point k of a rule
  abbrev point : Tri → ℕ → Vec
  point t k = map_point t (at (quadrature_row kind k) 1) (at (quadrature_row kind k) 2)

  -- of two panels by their corners
  module _ (v u : Tri) where
    abbrev from : Tri → WeightedPoints
    from x = points_of kind x (area x)

    between_is : (i j : ℕ) → i < quadrature_count kind → j < quadrature_count kind
        → between (from v) (from u) i j ≡ norm3 (sub3 (point u i) (point v j))
    unfolding distances
    between_is i j h k = rw (point_at kind u (area u) i h, point_at kind v (area v) j k)

    -- the potential of v at point i of u
    potential_is : (i : ℕ) → i < quadrature_count kind
        → sum_to (λ (j : ℕ). at (from v).weight j ⊘ between (from v) (from u) i j) (quadrature_count kind) ≡ triangle_scalar_potential_regular kind v (point u i)
    unfolding triangle_scalar_potential_regular potential_row
    potential_is i h =
        sum_same _ (λ (j : ℕ). potential_row v (area v) (point u i) (quadrature_row kind j)) (quadrature_count kind)
        (λ j k. rw (weight_at kind v (area v) j k, between_is i j h k))

    -- the potential of u at point j of v
    held_is : (j : ℕ) → j < quadrature_count kind
        → at (held_to (quadrature_count kind) (from v) (from u) (quadrature_count kind)) j ≡ triangle_scalar_potential_regular kind u (point v j)
    unfolding triangle_scalar_potential_regular potential_row
    held_is j k =
        held_at (quadrature_count kind) (from v) (from u) (quadrature_count kind) j k (few kind)
        ∙ sum_same _ (λ (i : ℕ). potential_row u (area u) (point v j) (quadrature_row kind i)) (quadrature_count kind)
        (λ i h. rw (weight_at kind u (area u) i h, between_is i j h k, distance_mirror (point v j) (point u i)))

    forward-sum : sum_to (forward (quadrature_count kind) (from v) (from u)) (quadrature_count kind) ≡ geometric_coupling_regular kind v u
    unfolding geometric_coupling_regular forward integral_row
    forward-sum =
        sum_same _ (λ (i : ℕ). integral_row u (area u) (triangle_scalar_potential_regular kind v) (quadrature_row kind i)) (quadrature_count kind)
        (λ i h. rw (weight_at kind u (area u) i h, potential_is i h))

    backward_sum : sum_to (λ (j : ℕ). at (from v).weight j ⊗ at (held_to (quadrature_count kind) (from v) (from u) (quadrature_count kind)) j) (quadrature_count kind) ≡ geometric_coupling_regular kind u v
    unfolding geometric_coupling_regular integral_row
    backward_sum =
        sum_same _ (λ (j : ℕ). integral_row v (area v) (triangle_scalar_potential_regular kind u) (quadrature_row kind j)) (quadrature_count kind)
        (λ j k. rw (weight_at kind v (area v) j k, held_is j k))

    pub symmetric : far_shared (quadrature_count kind) (from v) (from u) ≡ triangle_geometric_coupling_regular_symmetric kind v u
    unfolding far_shared triangle_geometric_coupling_regular_symmetric
    symmetric = rw (forward-sum, backward_sum)
