-- Inner form: the distances between the points of two lists of coordinates each, and the vectors between them. Definitions only.
use Rattle.std.specs.Prelude.{ℕ, List, [], ◌∷◌, ◌/◌, ◌%◌, Float}
use Rattle.binary64.specs.Binary64.{◌⊖◌, at}
use Rattle.math.specs.Math.{Vec, sub3, norm3}
use Rattle.point_distances.specs.declared.PointColumns.{PointColumns}
use Rattle.point_distances.specs.declared.Vectors.{Vectors}

-- pairs of points of two panels, each with as many as a rule has at most
abbrev pub max_pairs : ℕ
max_pairs = 49

abbrev pub point : PointColumns → ℕ → Vec
point p k = at p.x.now k ∷ at p.y.now k ∷ at p.z.now k ∷ []

-- one coordinate of pair k of n times n: number k / n of the first list less number k % n of the second
abbrev pub difference : List Float → List Float → ℕ → ℕ → Float
difference a x n k = at a (k / n) ⊖ at x (k % n)

-- pair k of n times n: point k / n of the first columns and point k % n of the second
unfoldable pub distance : PointColumns → PointColumns → ℕ → ℕ → Float
distance p q n k = norm3 (sub3 (point p (k / n)) (point q (k % n)))

abbrev pub vector : Vectors → ℕ → Vec
vector v k = at v.x k ∷ at v.y k ∷ at v.z k ∷ []
