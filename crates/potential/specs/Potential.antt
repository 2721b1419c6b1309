-- boundary_element/triangle_potential.rs: potential of a uniformly loaded flat triangle, its gradient, and contact. Definitions only.
use Rattle.std.specs.Prelude.{ℕ, Bool, false, cond, ◌&&◌, [], ◌∷◌, Float}
use Rattle.std.specs.Bool.{beq}
use Rattle.std.specs.Float.{inf}
use Rattle.std.specs.Float.Ieee.{lt, le, eq, ne}
use Rattle.binary64.specs.Binary64.{◌⊕◌, ◌⊖◌, ◌⊗◌, ◌⊘◌, at, bits, plus_zero, one, two}
use Rattle.ieee754.specs.Ieee754.{fma, sqrt, abs, max}
use Rattle.elementary.specs.Elementary.{ln, asinh, atan2}
use Rattle.math.specs.Math.{Vec, dot3, norm3, sub3, cross3, scale3, normalize3}
use Rattle.tri.specs.Mapping.{Tri, corner, raw_normal}
use Rattle.tri.specs.Tri3.{closest_point}
use Rattle.potential.specs.declared.Edge.{Edge}
use Rattle.potential.specs.declared.UniformTriangle.{UniformTriangle}

-- ---- the geometry that is kept
unfoldable pub longer : Float → Float → Float
longer a b = cond (lt a b) b a

unfoldable pub edge_between : Vec → Vec → Vec → Edge
edge_between a b normal =
    let delta = sub3 b a in
    let length = norm3 delta in
    let tangent = scale3 delta (one ⊘ length) in
    record { tangent = tangent; outward = cross3 tangent normal; length = length }

-- the record, of the corners, the normal and the three edges
unfoldable pub uniform_triangle_of : Tri → Vec → Edge → Edge → Edge → UniformTriangle
uniform_triangle_of t normal a b c = record {
  nodes = t;
  normal = normal;
  edge_tangent = a.tangent ∷ b.tangent ∷ c.tangent ∷ [];
  edge_outward = a.outward ∷ b.outward ∷ c.outward ∷ [];
  edge_length = a.length ∷ b.length ∷ c.length ∷ [];
  max_edge = longer (longer (longer plus_zero a.length) b.length) c.length;
}

-- UniformTriangle::new
unfoldable pub uniform_triangle : Tri → UniformTriangle
uniform_triangle t =
    let normal = normalize3 (raw_normal t) in
    let a = edge_between (corner t 0) (corner t 1) normal in
    let b = edge_between (corner t 1) (corner t 2) normal in
    let c = edge_between (corner t 2) (corner t 0) normal in
    uniform_triangle_of t normal a b c

abbrev pub node : UniformTriangle → ℕ → Vec
node p i = corner p.nodes i

abbrev pub tangent : UniformTriangle → ℕ → Vec
tangent p edge = corner p.edge_tangent edge

abbrev pub outward : UniformTriangle → ℕ → Vec
outward p edge = corner p.edge_outward edge

-- the method nodes
abbrev pub corners : UniformTriangle → Tri
corners p = p.nodes

-- ---- the integral of 1/distance over an edge
-- the point is on the edge's line: outside the edge, or on it
unfoldable pub integral_on_line : Float → Float → Float
integral_on_line start end =
    cond (ne start plus_zero && ne end plus_zero && beq (lt plus_zero start) (lt plus_zero end))
    (abs (ln (abs end ⊘ abs start)))
    (inf false)

unfoldable pub line_integral : Float → Float → Float → Float
line_integral start end transverse =
    cond (lt plus_zero transverse) (asinh (end ⊘ transverse) ⊖ asinh (start ⊘ transverse))
    (integral_on_line start end)

-- r is the edge's first node less the point, h the distance of the edge's line along outward, d that of the plane
unfoldable pub edge_integral_from : UniformTriangle → ℕ → Vec → Float → Float → Float
edge_integral_from p edge r h d =
    let alongStart = dot3 r (tangent p edge) in
    let alongEnd = alongStart ⊕ at p.edge_length edge in
    let transverse = sqrt (fma h h (d ⊗ d)) in
    line_integral alongStart alongEnd transverse

unfoldable pub edge_integral : UniformTriangle → ℕ → Vec → Float → Float
edge_integral p edge obs d =
    let r = sub3 (node p edge) obs in
    let h = dot3 r (outward p edge) in
    edge_integral_from p edge r h d

-- ---- the solid angle, of the vectors from the corners to the point
unfoldable pub solid_angle : Vec → Vec → Vec → Float
solid_angle r0 r1 r2 =
    let n0 = norm3 r0 in
    let n1 = norm3 r1 in
    let n2 = norm3 r2 in
    let numerator = dot3 r0 (cross3 r1 r2) in
    let denominator = n0 ⊗ n1 ⊗ n2 ⊕ dot3 r0 r1 ⊗ n2 ⊕ dot3 r1 r2 ⊗ n0 ⊕ dot3 r2 r0 ⊗ n1 in
    two ⊗ atan2 numerator denominator

unfoldable pub signed_solid_angle : UniformTriangle → Vec → Float
signed_solid_angle p obs = solid_angle (sub3 obs (node p 0)) (sub3 obs (node p 1)) (sub3 obs (node p 2))

-- ---- potential, gradient, contact
unfoldable pub distance_from_plane : UniformTriangle → Vec → Float
distance_from_plane p obs = dot3 (sub3 obs (node p 0)) p.normal

-- one edge of the potential's sum; left out where h = 0 and d = 0
unfoldable pub add_edge : UniformTriangle → ℕ → Vec → Float → Float → Float
add_edge p edge obs d value =
    let h = dot3 (sub3 (node p edge) obs) (outward p edge) in
    cond (eq h plus_zero && eq d plus_zero) value (value ⊕ h ⊗ edge_integral p edge obs d)

-- value less the solid angle's part
unfoldable pub less_solid_angle : UniformTriangle → Vec → Float → Float → Float
less_solid_angle p obs d value = value ⊖ d ⊗ signed_solid_angle p obs

unfoldable pub scalar_potential : UniformTriangle → Vec → Float
scalar_potential p obs =
    let d = distance_from_plane p obs in
    let value = add_edge p 2 obs d (add_edge p 1 obs d (add_edge p 0 obs d plus_zero)) in
    less_solid_angle p obs d value

unfoldable pub subtract_scaled : Vec → Vec → Float → Vec
subtract_scaled a v s = (at a 0 ⊖ at v 0 ⊗ s) ∷ (at a 1 ⊖ at v 1 ⊗ s) ∷ (at a 2 ⊖ at v 2 ⊗ s) ∷ []

-- one edge of the gradient's sum; no edge is left out
unfoldable pub subtract_edge : UniformTriangle → ℕ → Vec → Float → Vec → Vec
subtract_edge p edge obs d gradient = subtract_scaled gradient (outward p edge) (edge_integral p edge obs d)

unfoldable pub scalar_potential_gradient : UniformTriangle → Vec → Vec
scalar_potential_gradient p obs =
    let d = distance_from_plane p obs in
    let start = plus_zero ∷ plus_zero ∷ plus_zero ∷ [] in
    let gradient = subtract_edge p 2 obs d (subtract_edge p 1 obs d (subtract_edge p 0 obs d start)) in
    subtract_scaled gradient p.normal (signed_solid_angle p obs)

-- 64.0
abbrev pub surface_epsilon_factor : Float
surface_epsilon_factor = bits 0x4050_0000_0000_0000

-- f64::EPSILON
abbrev pub epsilon : Float
epsilon = bits 0x3cb0_0000_0000_0000

unfoldable pub contains_on_surface : UniformTriangle → Vec → Bool
contains_on_surface p obs =
    let delta = sub3 obs (closest_point obs (corners p)) in
    let scale = max (norm3 obs) p.max_edge in
    let tolerance = surface_epsilon_factor ⊗ epsilon ⊗ scale in
    le (dot3 delta delta) (tolerance ⊗ tolerance)
