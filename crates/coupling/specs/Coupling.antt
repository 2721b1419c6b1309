-- inductance.rs: the geometric coupling ∫∫ 1/R dS' dS of two triangles, by the far or the near rule.
-- Definitions, with the equations of the two that recur.
use Rattle.std.specs.Prelude.{ℕ, zero, suc, Bool, cond, not, ◌&&◌, ◌||◌, List, [], get_or, Float}
use Rattle.std.specs.Float.Ieee.{lt}
use Rattle.lists.specs.Sums.{sum_to}
use Rattle.binary64.specs.Binary64.{◌⊕◌, ◌⊗◌, ◌⊘◌, at, half}
use Rattle.ieee754.specs.Ieee754.{max}
use Rattle.math.specs.Math.{Vec, sub3, norm3}
use Rattle.tri.specs.Mapping.{Tri, area, map_point}
use Rattle.tri.specs.Quadrature.{quadrature_row, quadrature_count}
use Rattle.tri.specs.declared.quadrature.QuadratureKind.{QuadratureKind}
use Rattle.tri.specs.declared.quadrature.QuadratureKind.TheVariants.{Dunavant5}
use Rattle.potential.specs.declared.UniformTriangle.{UniformTriangle}
use Rattle.potential.specs.Potential.{uniform_triangle, scalar_potential}
use Rattle.boundary_element.specs.Identity.{triangles_identical}
use Rattle.panel_distance.specs.Distance.{triangle_distance_squared, triangle_aabb_distance_squared, triangle_max_edge_squared}
use Rattle.panel_distance.specs.Bisection.{longest_edge_bisection}

-- ---- sums over a rule's rows
-- f of each of the first k rows, added in their order to +0
abbrev pub rows_to : QuadratureKind → (List Float → Float) → ℕ → Float
rows_to kind f k = sum_to (λ j. f (quadrature_row kind j)) k

-- all rows
abbrev pub over_rows : QuadratureKind → (List Float → Float) → Float
over_rows kind f = rows_to kind f (quadrature_count kind)

-- a row's part of the integral of g over the triangle t: weight · area · g at the row's point
unfoldable pub integral_row : Tri → Float → (Vec → Float) → List Float → Float
integral_row t area g q = at q 0 ⊗ area ⊗ g (map_point t (at q 1) (at q 2))

-- the integral of g over t by a rule
abbrev pub integral : QuadratureKind → Tri → (Vec → Float) → Float
integral kind t g = over_rows kind (integral_row t (area t) g)

-- ---- the far rule
-- a row's part of the source's potential at obs: the quotient weight · area / distance
unfoldable pub potential_row : Tri → Float → Vec → List Float → Float
potential_row source area obs q = at q 0 ⊗ area ⊘ norm3 (sub3 obs (map_point source (at q 1) (at q 2)))

unfoldable pub triangle_scalar_potential_regular : QuadratureKind → Tri → Vec → Float
triangle_scalar_potential_regular kind source obs = over_rows kind (potential_row source (area source) obs)

-- directed: from source to target
unfoldable pub geometric_coupling_regular : QuadratureKind → Tri → Tri → Float
geometric_coupling_regular kind source target = integral kind target (triangle_scalar_potential_regular kind source)

unfoldable pub triangle_geometric_coupling_regular_symmetric : QuadratureKind → Tri → Tri → Float
triangle_geometric_coupling_regular_symmetric kind source target = half ⊗ (geometric_coupling_regular kind source target ⊕ geometric_coupling_regular kind target source)

-- ---- the near rule
unfoldable pub triangle_geometric_coupling_exact_directed : UniformTriangle → Tri → QuadratureKind → Float
triangle_geometric_coupling_exact_directed source target kind = integral kind target (scalar_potential source)

-- COUPLING_NEAR_SUBDIVISION_DEPTH
abbrev pub near_depth : ℕ
near_depth = 2

-- the target halved depth times; each leaf has Dunavant5, whatever rule the far pairs have
unfoldable pub triangle_geometric_coupling_exact_fixed : UniformTriangle → Tri → ℕ → Float
triangle_geometric_coupling_exact_fixed source target zero = triangle_geometric_coupling_exact_directed source target Dunavant5
triangle_geometric_coupling_exact_fixed source target (suc depth) =
    let children = longest_edge_bisection target in
    triangle_geometric_coupling_exact_fixed source (get_or children 0 []) depth ⊕ triangle_geometric_coupling_exact_fixed source (get_or children 1 []) depth

-- ---- which rule
-- far: not identical, and the boxes or, failing that, the panels further apart than the longest edge of the two
unfoldable pub is_far : Tri → Tri → Bool
is_far source target =
    let maxEdgeSquared = max (triangle_max_edge_squared source) (triangle_max_edge_squared target) in
    not (triangles_identical source target)
    && (lt maxEdgeSquared (triangle_aabb_distance_squared source target) || lt maxEdgeSquared (triangle_distance_squared source target))

unfoldable pub geometric_coupling : QuadratureKind → Tri → Tri → Float
geometric_coupling kind source target =
    cond (is_far source target) (triangle_geometric_coupling_regular_symmetric kind source target) (triangle_geometric_coupling_exact_fixed (uniform_triangle source) target near_depth)
