-- Inner form: the numbers of a panel that are cached. Each is a definition of the crates below at the panel's corners, so what is made of them is a function of the corners.
use Rattle.std.specs.Prelude.{◌≡◌}
use Rattle.tri.specs.Mapping.{Tri, area}
use Rattle.tri.specs.declared.quadrature.QuadratureKind.{QuadratureKind}
use Rattle.potential.specs.Potential.{uniform_triangle}
use Rattle.boundary_element.specs.CurrentDensity.{triangle_basis_current_densities}
use Rattle.panel_distance.specs.Distance.{bounds, triangle_max_edge_squared}
use Rattle.panel_points.specs.Points.{rows_of, points_of}
use Rattle.pair.specs.declared.Panel.{Panel}
use Rattle.pair.specs.declared.Source.{Source}

-- ---- a panel's numbers
unfoldable pub panel_numbers : Tri → Panel
panel_numbers t = record {
  corners = t;
  area = area t;
  edge = triangle_max_edge_squared t;
  bounds = bounds t;
  densities = triangle_basis_current_densities t;
}

unfoldable pub source_numbers : QuadratureKind → Panel → Source
source_numbers kind p = record {
  panel = p;
  rows = rows_of kind;
  points = points_of kind p.corners p.area;
  uniform = uniform_triangle p.corners;
}

-- ---- what a pair's block is made of
-- the numbers are those of the panel's own corners
unfoldable pub Known : Panel → Type 0
Known p = p ≡ panel_numbers p.corners

unfoldable pub KnownSource : QuadratureKind → Source → Type 0
KnownSource kind s = Known s.panel × (s ≡ source_numbers kind s.panel)
