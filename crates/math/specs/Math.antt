-- src/math.rs on vectors of three numbers, an array's value being a list, and the constants of src/lib.rs. Definitions only.
use Rattle.std.specs.Prelude.{List, [], ◌∷◌, Float}
use Rattle.binary64.specs.Binary64.{◌⊕◌, ◌⊖◌, ◌⊗◌, ◌⊘◌, at, bits, plus_zero, one, four, π}
use Rattle.ieee754.specs.Ieee754.{fma, sqrt}

-- a vector in space
abbrev pub Vec : Type 0
Vec = List Float

unfoldable pub dot3 : Vec → Vec → Float
dot3 a b = fma (at a 0) (at b 0) (fma (at a 1) (at b 1) (at a 2 ⊗ at b 2))

unfoldable pub norm3 : Vec → Float
norm3 v = sqrt (dot3 v v)

unfoldable pub sub3 : Vec → Vec → Vec
sub3 a b = (at a 0 ⊖ at b 0) ∷ (at a 1 ⊖ at b 1) ∷ (at a 2 ⊖ at b 2) ∷ []

unfoldable pub add3 : Vec → Vec → Vec
add3 a b = (at a 0 ⊕ at b 0) ∷ (at a 1 ⊕ at b 1) ∷ (at a 2 ⊕ at b 2) ∷ []

unfoldable pub scale3 : Vec → Float → Vec
scale3 v scale = (at v 0 ⊗ scale) ∷ (at v 1 ⊗ scale) ∷ (at v 2 ⊗ scale) ∷ []

unfoldable pub normalize3 : Vec → Vec
normalize3 v = scale3 v (one ⊘ norm3 v)

-- a + scale · b, each element rounded once
unfoldable pub add_scaled3 : Vec → Vec → Float → Vec
add_scaled3 a b scale = fma scale (at b 0) (at a 0) ∷ fma scale (at b 1) (at a 1) ∷ fma scale (at b 2) (at a 2) ∷ []

-- 0 − b, which is +0 at either zero, and not the negation of b
unfoldable pub cross3 : Vec → Vec → Vec
cross3 a b =
    fma (at a 1) (at b 2) ((plus_zero ⊖ at b 1) ⊗ at a 2)
    ∷ fma (at a 2) (at b 0) ((plus_zero ⊖ at b 2) ⊗ at a 0)
    ∷ fma (at a 0) (at b 1) ((plus_zero ⊖ at b 0) ⊗ at a 1)
    ∷ []

-- 0.999_999_999_87 * PI * 4e-7, in H/m
unfoldable pub mu0 : Float
mu0 = bits 0x3fef_ffff_ffee_2208 ⊗ π ⊗ bits 0x3e9a_d7f2_9abc_af48

-- MU_0 / (4.0 * PI)
unfoldable pub mu0_over4_pi : Float
mu0_over4_pi = mu0 ⊘ (four ⊗ π)
