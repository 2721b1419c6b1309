-- inductance.rs: a triangle halved at its longest edge. Definitions only.
use Rattle.std.specs.Prelude.{ℕ, ◌+◌, ◌%◌, cond, ◌&&◌, List, [], ◌∷◌, Float}
use Rattle.std.specs.Float.Ieee.{lt, le}
use Rattle.binary64.specs.Binary64.{◌⊕◌, ◌⊗◌, at, half}
use Rattle.math.specs.Math.{Vec}
use Rattle.tri.specs.Mapping.{Tri, corner}
use Rattle.panel_distance.specs.Distance.{distance_squared}

-- of the lengths of edges 0, 1 and 2 the first that is longest; edge i goes from corner i to the next
unfoldable pub first_longest : Float → Float → Float → ℕ
first_longest l0 l1 l2 = cond (lt l0 l1 && le l2 l1) 1 (cond (lt l0 l2) 2 0)

unfoldable pub longest_edge : Tri → ℕ
longest_edge t =
    first_longest (distance_squared (corner t 0) (corner t 1)) (distance_squared (corner t 1) (corner t 2)) (distance_squared (corner t 2) (corner t 0))

unfoldable pub midpoint : Vec → Vec → Vec
midpoint a b = (half ⊗ (at a 0 ⊕ at b 0)) ∷ (half ⊗ (at a 1 ⊕ at b 1)) ∷ (half ⊗ (at a 2 ⊕ at b 2)) ∷ []

-- the halves at the edge from a to b; c is the corner across
unfoldable pub halves : Vec → Vec → Vec → List Tri
halves a b c =
    let m = midpoint a b in
    (a ∷ m ∷ c ∷ []) ∷ (m ∷ b ∷ c ∷ []) ∷ []

unfoldable pub longest_edge_bisection : Tri → List Tri
longest_edge_bisection t =
    let edge = longest_edge t in
    halves (corner t edge) (corner t ((edge + 1) % 3)) (corner t ((edge + 2) % 3))
