-- inductance.rs: squared distances between points, segments, triangles and their boxes; the last part, boxes that are kept, is inner form. Definitions only.
use Rattle.std.specs.Prelude.{ℕ, false, cond, [], ◌∷◌, Float}
use Rattle.std.specs.Float.{inf}
use Rattle.std.specs.Float.Ieee.{lt, neg}
use Rattle.binary64.specs.Binary64.{◌⊕◌, ◌⊖◌, ◌⊗◌, ◌⊘◌, at, plus_zero, one}
use Rattle.ieee754.specs.Ieee754.{min, max, clamp}
use Rattle.math.specs.Math.{Vec, sub3, dot3}
use Rattle.tri.specs.Mapping.{Tri, corner}
use Rattle.tri.specs.Tri3.{closest_point}
use Rattle.panel_distance.specs.declared.distance.Bounds.{Bounds}

-- the squared length of the vector from a to b
unfoldable pub distance_squared : Vec → Vec → Float
distance_squared a b =
    let delta = sub3 b a in
    dot3 delta delta

unfoldable pub point_triangle_distance_squared : Vec → Tri → Float
point_triangle_distance_squared point t = distance_squared (closest_point point t) point

-- ---- two segments
-- where the lines come closest, along the first and kept on it; 0 for parallel lines
unfoldable pub line_parameter : Float → Float → Float → Float → Float → Float
line_parameter a b c e f =
    let denominator = a ⊗ e ⊖ b ⊗ b in
    cond (lt plus_zero denominator) (clamp ((b ⊗ f ⊖ c ⊗ e) ⊘ denominator) plus_zero one) plus_zero

-- the squared length of r + s·d1 − t·d2, of which only the squares are fused
unfoldable pub offset_squared : Vec → Vec → Vec → Float → Float → Float
offset_squared r d1 d2 s t =
    let delta = (at r 0 ⊕ s ⊗ at d1 0 ⊖ t ⊗ at d2 0) ∷ (at r 1 ⊕ s ⊗ at d1 1 ⊖ t ⊗ at d2 1) ∷ (at r 2 ⊕ s ⊗ at d1 2 ⊖ t ⊗ at d2 2) ∷ [] in
    dot3 delta delta

-- the same where t is kept on the second segment, with the s that goes with its end
unfoldable pub kept_offset_squared : Vec → Vec → Vec → Float → Float → Float → Float → Float → Float
kept_offset_squared r d1 d2 a b c s t =
    cond (lt t plus_zero) (offset_squared r d1 d2 (clamp (neg c ⊘ a) plus_zero one) plus_zero)
    (cond (lt one t) (offset_squared r d1 d2 (clamp ((b ⊖ c) ⊘ a) plus_zero one) one)
    (offset_squared r d1 d2 s t))

unfoldable pub segment_distance_squared : Vec → Vec → Vec → Vec → Float
segment_distance_squared p0 p1 q0 q1 =
    let d1 = sub3 p1 p0 in
    let d2 = sub3 q1 q0 in
    let r = sub3 p0 q0 in
    let a = dot3 d1 d1 in
    let e = dot3 d2 d2 in
    let b = dot3 d1 d2 in
    let c = dot3 d1 r in
    let f = dot3 d2 r in
    let s = line_parameter a b c e f in
    let t = (b ⊗ s ⊕ f) ⊘ e in
    kept_offset_squared r d1 d2 a b c s t

-- ---- two triangles
-- the least of a distance and those of the corners of s from t
unfoldable pub least_of_corners : Float → Tri → Tri → Float
least_of_corners distance s t =
    let d0 = min distance (point_triangle_distance_squared (corner s 0) t) in
    let d1 = min d0 (point_triangle_distance_squared (corner s 1) t) in
    min d1 (point_triangle_distance_squared (corner s 2) t)

-- the least of a distance and those of the segment from p0 to p1 from the edges of t
unfoldable pub least_of_edges : Float → Vec → Vec → Tri → Float
least_of_edges distance p0 p1 t =
    let d0 = min distance (segment_distance_squared p0 p1 (corner t 0) (corner t 1)) in
    let d1 = min d0 (segment_distance_squared p0 p1 (corner t 1) (corner t 2)) in
    min d1 (segment_distance_squared p0 p1 (corner t 2) (corner t 0))

-- six corners, then nine pairs of edges; a NaN among them is passed over
unfoldable pub triangle_distance_squared : Tri → Tri → Float
triangle_distance_squared a b =
    let ofA = least_of_corners (inf false) a b in
    let ofB = least_of_corners ofA b a in
    let edge0 = least_of_edges ofB (corner a 0) (corner a 1) b in
    let edge1 = least_of_edges edge0 (corner a 1) (corner a 2) b in
    least_of_edges edge1 (corner a 2) (corner a 0) b

-- ---- the boxes of two triangles
unfoldable pub lowest : Tri → ℕ → Float
lowest t axis = min (min (at (corner t 0) axis) (at (corner t 1) axis)) (at (corner t 2) axis)

unfoldable pub highest : Tri → ℕ → Float
highest t axis = max (max (at (corner t 0) axis) (at (corner t 1) axis)) (at (corner t 2) axis)

unfoldable pub gap : Tri → Tri → ℕ → Float
gap a b axis = max (max (lowest a axis ⊖ highest b axis) (lowest b axis ⊖ highest a axis)) plus_zero

unfoldable pub triangle_aabb_distance_squared : Tri → Tri → Float
triangle_aabb_distance_squared a b = plus_zero ⊕ gap a b 0 ⊗ gap a b 0 ⊕ gap a b 1 ⊗ gap a b 1 ⊕ gap a b 2 ⊗ gap a b 2

-- ---- the same of boxes that are kept
unfoldable pub bounds : Tri → Bounds
bounds t = record { lo = lowest t 0 ∷ lowest t 1 ∷ lowest t 2 ∷ []; hi = highest t 0 ∷ highest t 1 ∷ highest t 2 ∷ [] }

-- how far two boxes are apart along one axis
unfoldable pub gap_between : Bounds → Bounds → ℕ → Float
gap_between a b axis = max (max (at a.lo axis ⊖ at b.hi axis) (at b.lo axis ⊖ at a.hi axis)) plus_zero

unfoldable pub bounds_distance_squared : Bounds → Bounds → Float
bounds_distance_squared a b =
    let x = gap_between a b 0 in
    let y = gap_between a b 1 in
    let z = gap_between a b 2 in
    plus_zero ⊕ x ⊗ x ⊕ y ⊗ y ⊕ z ⊗ z

-- ---- the longest edge
unfoldable pub triangle_max_edge_squared : Tri → Float
triangle_max_edge_squared t =
    max (max (max plus_zero (distance_squared (corner t 0) (corner t 1))) (distance_squared (corner t 1) (corner t 2))) (distance_squared (corner t 2) (corner t 0))
