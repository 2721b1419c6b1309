-- Inner form: the numbers of one point in the steps of the potential at seven. Definitions only; add_part is the sum of Potential's add_edge.
use Rattle.std.specs.Prelude.{cond, ◌&&◌, Float}
use Rattle.std.specs.Float.Ieee.{eq}
use Rattle.binary64.specs.Binary64.{◌⊕◌, ◌⊗◌, plus_zero}
use Rattle.ieee754.specs.Ieee754.{fma}
use Rattle.math.specs.Math.{Vec, dot3, norm3, sub3}
pub use Rattle.length_lanes.specs.Length.{SquareOf}

-- the distance of obs from the plane through corner
abbrev pub from_plane : Vec → Vec → Vec → Float
from_plane corner normal obs = dot3 (sub3 obs corner) normal

-- the place of node along v, seen from obs
abbrev pub place : Vec → Vec → Vec → Float
place node v obs = dot3 (sub3 node obs) v

abbrev pub transverse_squared : Float → Float → Float
transverse_squared h d = fma h h (d ⊗ d)

-- an edge's part added to value; left out where h = 0 and d = 0
unfoldable pub add_part : Float → Float → Float → Float → Float
add_part value h d integral = cond (eq h plus_zero && eq d plus_zero) value (value ⊕ h ⊗ integral)

-- ---- the solid angle, of the vectors from the corners to the point
abbrev pub denominator : Float → Float → Float → Float → Float → Float → Float
denominator na nb nc ab bc ca = na ⊗ nb ⊗ nc ⊕ ab ⊗ nc ⊕ bc ⊗ na ⊕ ca ⊗ nb

abbrev pub denominator_at : Vec → Vec → Vec → Float
denominator_at a b c = denominator (norm3 a) (norm3 b) (norm3 c) (dot3 a b) (dot3 b c) (dot3 c a)
