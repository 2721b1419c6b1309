-- What a panel that is known holds: each field is the definition at the panel's own corners. So the tests on what is cached are those of the corners.
use mathlib.Core.Path.{◌≡◌, refl, ap, ◌∙◌}
use mathlib.Core.Bool.{Bool, true, false, not, ◌&&◌, ◌||◌}
use lib.Ieee.{Float, lt}
use Rattle.ieee754.specs.Ieee754.{max}
use Rattle.tri.specs.Mapping.{area}
use Rattle.tri.specs.declared.quadrature.QuadratureKind.{QuadratureKind}
use Rattle.potential.specs.Potential.{uniform_triangle}
use Rattle.boundary_element.specs.CurrentDensity.{triangle_basis_current_densities}
use Rattle.boundary_element.specs.Identity.{triangles_identical}
use Rattle.panel_distance.specs.Distance.{bounds, bounds_distance_squared, triangle_distance_squared, triangle_aabb_distance_squared, triangle_max_edge_squared}
use Rattle.coupling.specs.Coupling.{is_far}
use Rattle.pair.specs.declared.Panel.{Panel}
use Rattle.pair.specs.declared.Source.{Source}
use Rattle.pair_far_test.specs.Which.{far_beyond}
use Rattle.panel_points.specs.Points.{rows_of, points_of}
use Rattle.panel_distance.proofs.Boxes.{bounds_apart}
use Rattle.pair_far_test.proofs.Nearness.{beyond_is}
use Rattle.pair.specs.Pair.{panel_numbers, source_numbers, Known, KnownSource}

pub cached_densities : (p : Panel) → Known p → p.densities ≡ triangle_basis_current_densities p.corners
unfolding Known panel_numbers
cached_densities p k = ap (λ (q : Panel). q.densities) k

pub cached_area : (p : Panel) → Known p → p.area ≡ area p.corners
unfolding Known panel_numbers
cached_area p k = ap (λ (q : Panel). q.area) k

cached_edge : (p : Panel) → Known p → p.edge ≡ triangle_max_edge_squared p.corners
unfolding Known panel_numbers
cached_edge p k = ap (λ (q : Panel). q.edge) k

cached_bounds : (p : Panel) → Known p → p.bounds ≡ bounds p.corners
unfolding Known panel_numbers
cached_bounds p k = ap (λ (q : Panel). q.bounds) k

cached_box : (s t : Panel) → Known s → Known t → bounds_distance_squared s.bounds t.bounds ≡ triangle_aabb_distance_squared s.corners t.corners
cached_box s t k l = rw (cached_bounds s k, cached_bounds t l) (bounds_apart s.corners t.corners)

-- ---- which rule
and-turned : (a b : Bool) → a && b ≡ b && a
and-turned true true = refl
and-turned true false = refl
and-turned false true = refl
and-turned false false = refl

-- the longest edge of the two, squared
abbrev limit : Panel → Panel → Float
limit s t = max (triangle_max_edge_squared s.corners) (triangle_max_edge_squared t.corners)

pub which_is : (s t : Panel) → Known s → Known t
    → far_beyond s.corners t.corners (max s.edge t.edge) (bounds_distance_squared s.bounds t.bounds) ≡ is_far s.corners t.corners
unfolding far_beyond is_far
which_is s t k l =
    rw (cached_box s t k l, cached_edge s k, cached_edge t l, beyond_is (limit s t) s.corners t.corners)
    (and-turned (lt (limit s t) (triangle_aabb_distance_squared s.corners t.corners) || lt (limit s t) (triangle_distance_squared s.corners t.corners)) (not (triangles_identical s.corners t.corners)))

-- ---- a source
pub source_rows : (kind : QuadratureKind) (s : Source) → KnownSource kind s → s.rows ≡ rows_of kind
unfolding KnownSource source_numbers
source_rows kind s k = ap (λ (q : Source). q.rows) k.1

pub source_points : (kind : QuadratureKind) (s : Source) → KnownSource kind s → s.points ≡ points_of kind s.panel.corners (area s.panel.corners)
unfolding KnownSource source_numbers
source_points kind s k = ap (λ (q : Source). q.points) k.1 ∙ ap (points_of kind s.panel.corners) (cached_area s.panel k.0)

pub source_uniform : (kind : QuadratureKind) (s : Source) → KnownSource kind s → s.uniform ≡ uniform_triangle s.panel.corners
unfolding KnownSource source_numbers
source_uniform kind s k = ap (λ (q : Source). q.uniform) k.1
