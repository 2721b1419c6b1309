-- boundary_element/mod.rs: whether two panels are one, to the geometric tolerance. Definitions only.
use Rattle.std.specs.Prelude.{Bool, ◌&&◌, ◌||◌, Float}
use Rattle.std.specs.Float.Ieee.{lt}
use Rattle.binary64.specs.Binary64.{bits}
use Rattle.math.specs.Math.{Vec, sub3, norm3}
use Rattle.tri.specs.Mapping.{Tri, corner}

-- 1e-12
abbrev pub tolerance : Float
tolerance = bits 0x3d71_9799_812d_ea11

unfoldable pub points_match : Vec → Vec → Bool
points_match a b = lt (norm3 (sub3 a b)) tolerance

-- a point matches one of the corners
unfoldable pub matches_corner : Vec → Tri → Bool
matches_corner p t = points_match p (corner t 0) || (points_match p (corner t 1) || points_match p (corner t 2))

-- every source corner matches some target corner: one way only
unfoldable pub triangles_identical : Tri → Tri → Bool
triangles_identical s t = matches_corner (corner s 0) t && (matches_corner (corner s 1) t && matches_corner (corner s 2) t)
