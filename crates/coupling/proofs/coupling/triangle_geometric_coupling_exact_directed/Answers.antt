-- The sum over the seven places is the integral's sum over the rule's rows, term by term: a place has its row's weight and the potential at its row's point.
use mathlib.Core.Path.{◌≡◌, ap, ◌∙◌}
use mathlib.Core.List.{List}
use Prim.Native.Nat.{ℕ, ◌<◌}
use native.Mathlib.Nat.{lt_of_lt_of_le}
use lib.Ieee.{Float}
use Rattle.binary64.specs.Binary64.{at, ◌⊗◌}
use Rattle.tri.specs.Mapping.{Tri, area}
use Rattle.tri.specs.Quadrature.{quadrature_row, quadrature_count}
use Rattle.tri.specs.declared.quadrature.QuadratureKind.{QuadratureKind}
use Rattle.potential.specs.Potential.{scalar_potential}
use Rattle.potential.specs.declared.UniformTriangle.{UniformTriangle}
use Rattle.panel_points.specs.declared.WeightedPoints.{WeightedPoints}
use Rattle.lists.specs.Sums.{sum_to}
use Rattle.panel_points.specs.Points.{point, points_of}
use Rattle.lists.proofs.Sums.{sum_same}
use Rattle.panel_points.proofs.Places.{few, weight_at, point_at}
use Rattle.coupling.specs.Coupling as Spec
use Rattle.coupling.proofs.coupling.triangle_geometric_coupling_exact_directed.Goals as goal

module _ (source : UniformTriangle) (t : Tri) (kind : QuadratureKind) where
  abbrev at-points : WeightedPoints
  at-points = points_of kind t (area t)

  term : (pot : List Float) → ((i : ℕ) → i < 7 → at pot i ≡ scalar_potential source (point at-points.points i)) → (j : ℕ) → j < quadrature_count kind
      → at at-points.weight j ⊗ at pot j ≡ Spec.integral_row t (area t) (scalar_potential source) (quadrature_row kind j)
  unfolding Spec.integral_row
  term pot all j h =
      rw (weight_at kind t (area t) j h, all j (lt_of_lt_of_le h (few kind)), point_at kind t (area t) j h)

  leaf : (pot : List Float) → ((i : ℕ) → i < 7 → at pot i ≡ scalar_potential source (point at-points.points i))
      → sum_to (λ (j : ℕ). at at-points.weight j ⊗ at pot j) (quadrature_count kind) ≡ Spec.triangle_geometric_coupling_exact_directed source t kind
  unfolding Spec.triangle_geometric_coupling_exact_directed
  leaf pot all =
      sum_same _ (λ (j : ℕ). Spec.integral_row t (area t) (scalar_potential source) (quadrature_row kind j)) (quadrature_count kind) (term pot all)

pub weighted-requires : goal.weighted-requires
weighted-requires c = rw c.quadrature_count.ensures (few _)

pub returns : goal.returns
returns c =
    let a = c.args in
    let pot = c.scalar_potentials-potentials.result in
    let q = c.points_by-places.result in
    let e : q ≡ points_of a.kind a.target (area a.target) = rw (c.points_by-places.ensures, c.area.ensures, c.rows_of.ensures) in
    c.weighted.ensures
    ∙ ap (sum_to (λ (j : ℕ). at q.weight j ⊗ at pot j)) c.quadrature_count.ensures
    ∙ ap (λ (q : WeightedPoints). sum_to (λ (j : ℕ). at q.weight j ⊗ at pot j) (quadrature_count a.kind)) e
    ∙ leaf a.source a.target a.kind pot (λ i h. c.scalar_potentials-potentials.ensures i h ∙ ap (λ (q : WeightedPoints). scalar_potential a.source (point q.points i)) e)
