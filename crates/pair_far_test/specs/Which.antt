-- Inner form: whether two panels are far from each other, of numbers that are kept: the boxes' distance and the limit that it is held to. Definitions only.
use Rattle.std.specs.Prelude.{Bool, false, cond, not, ◌&&◌, ◌||◌, Float}
use Rattle.std.specs.Float.{inf}
use Rattle.std.specs.Float.Ieee.{neg, lt, le}
use Rattle.binary64.specs.Binary64.{◌⊖◌, at, bits}
use Rattle.ieee754.specs.Ieee754.{min}
use Rattle.math.specs.Math.{Vec}
use Rattle.tri.specs.Mapping.{Tri, corner}
use Rattle.boundary_element.specs.Identity.{triangles_identical}
use Rattle.panel_distance.specs.Distance.{point_triangle_distance_squared, segment_distance_squared}

-- ---- points that are plainly apart, by hardware operations alone
-- 2^-30, well above the tolerance of a match
abbrev pub wideness : Float
wideness = bits 0x3e10_0000_0000_0000

unfoldable pub is_wide : Float → Bool
is_wide x = le wideness x || le x (neg wideness)

-- some coordinate differs by that much
unfoldable pub is_clear : Vec → Vec → Bool
is_clear a b = is_wide (at a 0 ⊖ at b 0) || (is_wide (at a 1 ⊖ at b 1) || is_wide (at a 2 ⊖ at b 2))

-- ---- the panels' distance, as far as the limit asks for it
-- the least of a distance and three candidates, which stops at the first that is not above the limit
unfoldable pub until : Float → Float → Float → Float → Float → Float
until limit d a b c =
    let d0 = min d a in
    let d1 = min d0 b in
    cond (lt limit d0) (cond (lt limit d1) (min d1 c) d1) d0

unfoldable pub corners_until : Float → Float → Tri → Tri → Float
corners_until limit d s t = until limit d (point_triangle_distance_squared (corner s 0) t) (point_triangle_distance_squared (corner s 1) t) (point_triangle_distance_squared (corner s 2) t)

unfoldable pub edges_until : Float → Float → Vec → Vec → Tri → Float
edges_until limit d p q t =
    until limit d (segment_distance_squared p q (corner t 0) (corner t 1)) (segment_distance_squared p q (corner t 1) (corner t 2)) (segment_distance_squared p q (corner t 2) (corner t 0))

-- whether the least of a distance and those of all pairs of edges is above the limit
unfoldable pub edges_beyond : Float → Float → Tri → Tri → Bool
edges_beyond limit d s t =
    let a = edges_until limit d (corner s 0) (corner s 1) t in
    let b = edges_until limit a (corner s 1) (corner s 2) t in
    cond (lt limit a) (cond (lt limit b) (lt limit (edges_until limit b (corner s 2) (corner s 0) t)) false) false

unfoldable pub beyond : Float → Tri → Tri → Bool
beyond limit s t =
    let a = corners_until limit (inf false) s t in
    let b = corners_until limit a t s in
    cond (lt limit a) (cond (lt limit b) (edges_beyond limit b s t) false) false

-- ---- which rule
-- the boxes (apart) or the panels further apart than the limit, and not one panel
unfoldable pub far_beyond : Tri → Tri → Float → Float → Bool
far_beyond s t limit apart = (lt limit apart || beyond limit s t) && not (triangles_identical s t)
