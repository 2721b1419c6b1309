-- What the places of the seven numbers hold after a loop: the function's values, so a rule's points and weights. A sum changes with its terms alone.
use mathlib.Core.Path.{◌≡◌, ap, ◌∙◌}
use mathlib.Core.List.{List}
use Prim.Native.Nat.{ℕ, ◌<◌, ◌≤◌}
use native.Mathlib.Nat.{lt_of_lt_of_le}
use native.Mathlib.Omega.{arith}
use lib.Ieee.{Float}
use Rattle.binary64.specs.Binary64.{◌⊕◌, ◌⊗◌, at}
use Rattle.tri.specs.Mapping.{Tri, corner, map_point}
use Rattle.tri.specs.Quadrature.{quadrature_row, quadrature_count}
use Rattle.tri.specs.declared.quadrature.QuadratureKind.{QuadratureKind}
use Rattle.tri.proofs.Counts.{count-between}
use Rattle.panel_points.specs.Points.{rest, column, rows_of, point, mixed, along, weights, points_by, points_of}
use Rattle.panel_points.proofs.Seven.{seven_at}

-- ---- the points of a rule
-- mapPoint's coordinate, of that coordinate of the corners and a row
abbrev mapped : Float → Float → Float → List Float → Float
mapped a b c q = a ⊗ rest q ⊕ b ⊗ at q 1 ⊕ c ⊗ at q 2

module _ (kind : QuadratureKind) where
  pub few : quadrature_count kind ≤ 7
  few = (count-between kind).1

  -- number k of a column is that of row k
  column_at_lem : (f : List Float → Float) (k : ℕ) → k < quadrature_count kind → at (column kind f) k ≡ f (quadrature_row kind k)
  column_at_lem f k h = seven_at (λ (j : ℕ). f (quadrature_row kind j)) (quadrature_count kind) k h few

  pub weight_at : (t : Tri) (a : Float) (k : ℕ) → k < quadrature_count kind → at (points_of kind t a).weight k ≡ at (quadrature_row kind k) 0 ⊗ a
  unfolding points_by weights rows_of
  weight_at t a k h =
      seven_at (λ (j : ℕ). at (rows_of kind).weight j ⊗ a) 7 k (lt_of_lt_of_le h few) (omega arith)
      ∙ ap (λ (w : Float). w ⊗ a) (column_at_lem (λ (q : List Float). at q 0) k h)

  along_at : (a b c : Float) (k : ℕ) → k < quadrature_count kind → at (along (rows_of kind) a b c) k ≡ mapped a b c (quadrature_row kind k)
  unfolding along rows_of
  along_at a b c k h =
      seven_at (mixed (rows_of kind) a b c) 7 k (lt_of_lt_of_le h few) (omega arith)
      ∙ rw (column_at_lem rest k h, column_at_lem (λ (q : List Float). at q 1) k h, column_at_lem (λ (q : List Float). at q 2) k h)

  pub point_at : (t : Tri) (a : Float) (k : ℕ) → k < quadrature_count kind
      → point (points_of kind t a).points k ≡ map_point t (at (quadrature_row kind k) 1) (at (quadrature_row kind k) 2)
  unfolding points_by map_point
  point_at t a k h = rw (
    along_at (at (corner t 0) 0) (at (corner t 1) 0) (at (corner t 2) 0) k h,
    along_at (at (corner t 0) 1) (at (corner t 1) 1) (at (corner t 2) 1) k h,
    along_at (at (corner t 0) 2) (at (corner t 1) 2) (at (corner t 2) 2) k h,
  )
