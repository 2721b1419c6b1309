-- The C interface's `coordinates` and `triangle`, three vectors as nine numbers and back; the rest is inner form: the rows of a rule and its points on a panel, in seven places for any rule. Definitions only.
use Rattle.std.specs.Prelude.{ℕ, zero, suc, List, [], ◌∷◌, set, Float}
use Rattle.binary64.specs.Binary64.{◌⊕◌, ◌⊖◌, ◌⊗◌, at, plus_zero, one}
use Rattle.math.specs.Math.{Vec}
use Rattle.tri.specs.Mapping.{Tri, corner}
use Rattle.tri.specs.Quadrature.{quadrature_row, quadrature_count}
use Rattle.tri.specs.declared.quadrature.QuadratureKind.{QuadratureKind}
use Rattle.panel_points.specs.declared.Points.{Points}
use Rattle.panel_points.specs.declared.Rows.{Rows}
use Rattle.panel_points.specs.declared.WeightedPoints.{WeightedPoints}

-- ---- three vectors as nine numbers
unfoldable pub coordinates : Tri → List Float
coordinates t =
    at (corner t 0) 0 ∷ at (corner t 0) 1 ∷ at (corner t 0) 2
    ∷ at (corner t 1) 0 ∷ at (corner t 1) 1 ∷ at (corner t 1) 2
    ∷ at (corner t 2) 0 ∷ at (corner t 2) 1 ∷ at (corner t 2) 2
    ∷ []

unfoldable pub triangle : List Float → Tri
triangle v = (at v 0 ∷ at v 1 ∷ at v 2 ∷ []) ∷ (at v 3 ∷ at v 4 ∷ at v 5 ∷ []) ∷ (at v 6 ∷ at v 7 ∷ at v 8 ∷ []) ∷ []

-- ---- seven places
-- seven numbers, of which the first k are g's and the others +0
unfoldable pub seven : (ℕ → Float) → ℕ → List Float
seven g zero = plus_zero ∷ plus_zero ∷ plus_zero ∷ plus_zero ∷ plus_zero ∷ plus_zero ∷ plus_zero ∷ []
seven g (suc k) = set (seven g k) k (g k)

-- ---- the rows of a rule
-- the first corner's share of a point
abbrev pub rest : List Float → Float
rest q = one ⊖ at q 1 ⊖ at q 2

-- f of each row
abbrev pub column_to : QuadratureKind → (List Float → Float) → ℕ → List Float
column_to kind f = seven (λ (k : ℕ). f (quadrature_row kind k))

abbrev pub column : QuadratureKind → (List Float → Float) → List Float
column kind f = column_to kind f (quadrature_count kind)

unfoldable pub rows_of : QuadratureKind → Rows
rows_of kind = record {
  first = column kind rest;
  second = column kind (λ q. at q 1);
  third = column kind (λ q. at q 2);
  weight = column kind (λ q. at q 0);
}

-- ---- the points of a rule on a panel
-- point k
abbrev pub point : Points → ℕ → Vec
point p k = at p.x k ∷ at p.y k ∷ at p.z k ∷ []

-- mapPoint's coordinate at place k, of that coordinate of the corners
abbrev pub mixed : Rows → Float → Float → Float → ℕ → Float
mixed rows a b c k = a ⊗ at rows.first k ⊕ b ⊗ at rows.second k ⊕ c ⊗ at rows.third k

unfoldable pub along : Rows → Float → Float → Float → List Float
along rows a b c = seven (mixed rows a b c) 7

unfoldable pub weights : Rows → Float → List Float
weights rows area = seven (λ (k : ℕ). at rows.weight k ⊗ area) 7

unfoldable pub points_by : Rows → Tri → Float → WeightedPoints
points_by rows t area = record {
  points = record {
    x = along rows (at (corner t 0) 0) (at (corner t 1) 0) (at (corner t 2) 0);
    y = along rows (at (corner t 0) 1) (at (corner t 1) 1) (at (corner t 2) 1);
    z = along rows (at (corner t 0) 2) (at (corner t 1) 2) (at (corner t 2) 2);
  };
  weight = weights rows area;
}

abbrev pub points_of : QuadratureKind → Tri → Float → WeightedPoints
points_of kind = points_by (rows_of kind)
