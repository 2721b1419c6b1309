-- Inner form: the square of a length as one lane computes it, and what it is. Definitions only.
use Rattle.std.specs.Prelude.{◌≡◌, false, List, [], ◌∷◌, ℕ, Float}
use Rattle.std.specs.Float.Ieee.{is_nan}
use Rattle.binary64.specs.Binary64.{◌⊗◌, at}
use Rattle.fused_lanes.specs.Lanes.{square_add}
use Rattle.math.specs.Math.{Vec, dot3}

-- x × x + (y × y + z × z), NaN where a sum is not settled
unfoldable pub square_lane : Float → Float → Float → Float
square_lane x y z = square_add x (square_add y (z ⊗ z))

-- s is the square of the length of v, or NaN
abbrev pub SquareOf : Vec → Float → Type 0
SquareOf v s = is_nan s ≡ false → s ≡ dot3 v v

-- ---- vector k of three lists of coordinates, and its squared length by a lane
abbrev pub point : List Float → List Float → List Float → ℕ → Vec
point x y z k = at x k ∷ at y k ∷ at z k ∷ []

abbrev pub square_at : List Float → List Float → List Float → ℕ → Float
square_at x y z k = square_lane (at x k) (at y k) (at z k)
