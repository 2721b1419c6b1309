-- mapping.rs: from the reference triangle to a triangle in space. Definitions only.
use Rattle.std.specs.Prelude.{ℕ, List, [], ◌∷◌, get_or, Float}
use Rattle.binary64.specs.Binary64.{◌⊕◌, ◌⊖◌, ◌⊗◌, ◌⊘◌, at, one, half}
use Rattle.math.specs.Math.{Vec, sub3, cross3, norm3}

-- a triangle: its three corners
abbrev pub Tri : Type 0
Tri = List Vec

abbrev pub corner : Tri → ℕ → Vec
corner t i = get_or t i []

-- w = 1 − u − v; nothing is fused
unfoldable pub map_point : Tri → Float → Float → Vec
map_point t u v =
    let w = one ⊖ u ⊖ v in
    (at (corner t 0) 0 ⊗ w ⊕ at (corner t 1) 0 ⊗ u ⊕ at (corner t 2) 0 ⊗ v)
    ∷ (at (corner t 0) 1 ⊗ w ⊕ at (corner t 1) 1 ⊗ u ⊕ at (corner t 2) 1 ⊗ v)
    ∷ (at (corner t 0) 2 ⊗ w ⊕ at (corner t 1) 2 ⊗ u ⊕ at (corner t 2) 2 ⊗ v)
    ∷ []

unfoldable pub raw_normal : Tri → Vec
raw_normal t = cross3 (sub3 (corner t 1) (corner t 0)) (sub3 (corner t 2) (corner t 0))

unfoldable pub area : Tri → Float
area t = half ⊗ norm3 (raw_normal t)

unfoldable pub divide3 : Vec → Float → Vec
divide3 v s = (at v 0 ⊘ s) ∷ (at v 1 ⊘ s) ∷ (at v 2 ⊘ s) ∷ []

unfoldable pub normal : Tri → Vec
normal t = divide3 (raw_normal t) (norm3 (raw_normal t))
