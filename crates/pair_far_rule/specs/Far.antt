-- Inner form: the far rule with each distance worked out once for both directions: sums over the points of two panels.
-- Definitions only.
use Rattle.std.specs.Prelude.{ℕ, zero, suc, ◌+◌, ◌*◌, List, [], ◌∷◌, set, Float}
use Rattle.binary64.specs.Binary64.{◌⊕◌, ◌⊗◌, ◌⊘◌, at, plus_zero, half}
use Rattle.math.specs.Math.{Vec, norm3, sub3}
use Rattle.lists.specs.Sums.{sum_to}
use Rattle.panel_points.specs.Points.{point}
use Rattle.panel_points.specs.declared.Points.{Points}
use Rattle.panel_points.specs.declared.WeightedPoints.{WeightedPoints}

-- ---- the sums
-- the distances of p from points
unfoldable pub distances : Points → Vec → ℕ → Float
distances points p j = norm3 (sub3 p (point points j))

-- the distances d from index start on
abbrev pub from : List Float → ℕ → ℕ → Float
from d start j = at d (start + j)

-- held with v / d added at each index below k
unfoldable pub shared : List Float → Float → (ℕ → Float) → ℕ → List Float
shared held v d zero = held
shared held v d (suc k) = set (shared held v d k) k (at (shared held v d k) k ⊕ v ⊘ d k)

-- the distances of point i of t from the points of s
abbrev pub between : WeightedPoints → WeightedPoints → ℕ → ℕ → Float
between s t i = distances s.points (point t.points i)

-- the potentials at the points of s, of the first k points of t
unfoldable pub held_to : ℕ → WeightedPoints → WeightedPoints → ℕ → List Float
held_to n s t zero = plus_zero ∷ plus_zero ∷ plus_zero ∷ plus_zero ∷ plus_zero ∷ plus_zero ∷ plus_zero ∷ []
held_to n s t (suc k) = shared (held_to n s t k) (at t.weight k) (between s t k) n

-- the potential of s at point i of t, times that point's weight
unfoldable pub forward : ℕ → WeightedPoints → WeightedPoints → ℕ → Float
forward n s t i = at t.weight i ⊗ sum_to (λ j. at s.weight j ⊘ between s t i j) n

-- half the sum of the two directions
unfoldable pub far_shared : ℕ → WeightedPoints → WeightedPoints → Float
far_shared n s t = half ⊗ (sum_to (forward n s t) n ⊕ sum_to (λ j. at s.weight j ⊗ at (held_to n s t n) j) n)

-- ---- the same over a list d of all distances, that of point k of t from point j of s at k * n + j; w and v are the weights of s and t
-- row k of d
abbrev pub row : ℕ → List Float → ℕ → ℕ → Float
row n d k j = at d (k * n + j)

unfoldable pub forward_by : ℕ → List Float → List Float → List Float → ℕ → Float
forward_by n w v d k = at v k ⊗ sum_to (λ (j : ℕ). at w j ⊘ row n d k j) n

unfoldable pub held_by : ℕ → List Float → List Float → ℕ → List Float
held_by n v d zero = plus_zero ∷ plus_zero ∷ plus_zero ∷ plus_zero ∷ plus_zero ∷ plus_zero ∷ plus_zero ∷ []
held_by n v d (suc k) = shared (held_by n v d k) (at v k) (row n d k) n

unfoldable pub far_by : ℕ → List Float → List Float → List Float → Float
far_by n w v d = half ⊗ (sum_to (forward_by n w v d) n ⊕ sum_to (λ j. at w j ⊗ at (held_by n v d n) j) n)
