-- Inner form: what less_solid_angle tests before it leaves the solid angle out: every difference of coordinates is below 1e100 in size, from where no step of the solid angle overflows. No other definition rests on it.
use Rattle.std.specs.Prelude.{Bool, ◌&&◌, Float}
use Rattle.std.specs.Float.Ieee.{neg, lt}
use Rattle.binary64.specs.Binary64.{at, bits}
use Rattle.math.specs.Math.{Vec}

-- 1e100
abbrev pub limit : Float
limit = bits 0x54b2_49ad_2594_c37d

-- |x| < 1e100
unfoldable pub moderate : Float → Bool
moderate x = lt (neg limit) x && lt x limit

unfoldable pub moderate3 : Vec → Bool
moderate3 v = moderate (at v 0) && moderate (at v 1) && moderate (at v 2)
