-- Closed inputs of the program `density`: an empty mesh, the same with a byte behind it, one node without its value, too many nodes, and document 01's example. Each is computed.
use mathlib.Core.Path.{◌≡◌, refl}
use mathlib.Core.List.{List, [], ◌∷◌, ◌++◌}
use Prim.Native.Nat.{ℕ}
use Rattle.refusal.specs.Checks.{first}
use lib.Ieee.{of_bits, to_bits, add, sub, mul, div, lt, is_nan}
use Rattle.ieee754.specs.Ieee754.{fma, sqrt, canonical_bits}
use Rattle.binary64.specs.Operations.{square_root}
use Rattle.math.specs.Math.{norm3, dot3, cross3, sub3}
use Rattle.tri.specs.Mapping.{area, raw_normal}
use Rattle.boundary_element.specs.CurrentDensity.{triangle_current_density, combined, triangle_basis_current_densities, basis_current_density, triangle_scalars}
use Rattle.lists.specs.Counting.{some_below, any_of}
use Rattle.lists.specs.Filling.{tabulate_from}
use Rattle.mesh.specs.Mesh.{passes_limits, misses_node, is_zero_area}
use Rattle.panel_file.specs.LittleEndian.{little_endian, rows_from}
use Rattle.panel_file.specs.PanelFile.{nodal_value, coordinate, index, length_due, marks_differ, length_differs, file_checks, file_refusal}
use Rattle.density_text.specs.Text.{decimal, panel_line, line, field, nodal_values, first_line, refused_line, densities, text}

-- "PNL", version 1, n nodes, p panels
abbrev headed : ℕ → ℕ → List ℕ
headed n p = 80 ∷ 78 ∷ 76 ∷ 1 ∷ 0 ∷ n ∷ 0 ∷ p ∷ 0 ∷ []

-- "PNL 1 0 0"
pub empty : text (headed 0 0) ≡ 80 ∷ 78 ∷ 76 ∷ 32 ∷ 49 ∷ 32 ∷ 48 ∷ 32 ∷ 48 ∷ 10 ∷ []
unfolding text densities first_line decimal rows_from file_refusal file_checks marks_differ passes_limits length_differs length_due little_endian some_below tabulate_from first
empty = refl

-- "refused 15"
pub one_more : text (headed 0 0 ++ (0 ∷ [])) ≡ 114 ∷ 101 ∷ 102 ∷ 117 ∷ 115 ∷ 101 ∷ 100 ∷ 32 ∷ 49 ∷ 53 ∷ 10 ∷ []
unfolding text refused_line decimal file_refusal file_checks marks_differ passes_limits length_differs length_due little_endian first
one_more = refl

-- "refused 15": 24 bytes of a node, and no value
pub no_value : text (headed 1 0 ++ (0 ∷ 0 ∷ 0 ∷ 0 ∷ 0 ∷ 0 ∷ 0 ∷ 0 ∷ 0 ∷ 0 ∷ 0 ∷ 0 ∷ 0 ∷ 0 ∷ 0 ∷ 0 ∷ 0 ∷ 0 ∷ 0 ∷ 0 ∷ 0 ∷ 0 ∷ 0 ∷ 0 ∷ [])) ≡ 114 ∷ 101 ∷ 102 ∷ 117 ∷ 115 ∷ 101 ∷ 100 ∷ 32 ∷ 49 ∷ 53 ∷ 10 ∷ []
unfolding text refused_line decimal file_refusal file_checks marks_differ passes_limits length_differs length_due little_endian first
no_value = refl

-- "refused 11": 65 nodes
pub too_many : text (headed 65 0) ≡ 114 ∷ 101 ∷ 102 ∷ 117 ∷ 115 ∷ 101 ∷ 100 ∷ 32 ∷ 49 ∷ 49 ∷ 10 ∷ []
unfolding text refused_line decimal file_refusal file_checks marks_differ passes_limits little_endian first
too_many = refl

-- document 01's example
pub document : text (80 ∷ 78 ∷ 76 ∷ 1 ∷ 0 ∷ 3 ∷ 0 ∷ 1 ∷ 0 ∷ 0 ∷ 0 ∷ 0 ∷ 0 ∷ 0 ∷ 0 ∷ 0 ∷ 0 ∷ 0 ∷ 0 ∷ 0 ∷ 0 ∷ 0 ∷ 0 ∷ 0 ∷ 0 ∷ 0 ∷ 0 ∷ 0 ∷ 0 ∷ 0 ∷ 0 ∷ 0 ∷ 0 ∷ 0 ∷ 0 ∷ 0 ∷ 0 ∷ 0 ∷ 0 ∷ 240 ∷ 63 ∷ 0 ∷ 0 ∷ 0 ∷ 0 ∷ 0 ∷ 0 ∷ 0 ∷ 0 ∷ 0 ∷ 0 ∷ 0 ∷ 0 ∷ 0 ∷ 0 ∷ 0 ∷ 0 ∷ 0 ∷ 0 ∷ 0 ∷ 0 ∷ 0 ∷ 0 ∷ 0 ∷ 0 ∷ 0 ∷ 0 ∷ 0 ∷ 0 ∷ 0 ∷ 0 ∷ 240 ∷ 63 ∷ 0 ∷ 0 ∷ 0 ∷ 0 ∷ 0 ∷ 0 ∷ 0 ∷ 0 ∷ 0 ∷ 0 ∷ 1 ∷ 0 ∷ 2 ∷ 0 ∷ 0 ∷ 0 ∷ 0 ∷ 0 ∷ 0 ∷ 0 ∷ 240 ∷ 63 ∷ 0 ∷ 0 ∷ 0 ∷ 0 ∷ 0 ∷ 0 ∷ 0 ∷ 64 ∷ 0 ∷ 0 ∷ 0 ∷ 0 ∷ 0 ∷ 0 ∷ 16 ∷ 64 ∷ []) ≡ 80 ∷ 78 ∷ 76 ∷ 32 ∷ 49 ∷ 32 ∷ 51 ∷ 32 ∷ 49 ∷ 10 ∷ 48 ∷ 32 ∷ 99 ∷ 48 ∷ 48 ∷ 56 ∷ 48 ∷ 48 ∷ 48 ∷ 48 ∷ 48 ∷ 48 ∷ 48 ∷ 48 ∷ 48 ∷ 48 ∷ 48 ∷ 48 ∷ 32 ∷ 51 ∷ 102 ∷ 102 ∷ 48 ∷ 48 ∷ 48 ∷ 48 ∷ 48 ∷ 48 ∷ 48 ∷ 48 ∷ 48 ∷ 48 ∷ 48 ∷ 48 ∷ 48 ∷ 32 ∷ 48 ∷ 48 ∷ 48 ∷ 48 ∷ 48 ∷ 48 ∷ 48 ∷ 48 ∷ 48 ∷ 48 ∷ 48 ∷ 48 ∷ 48 ∷ 48 ∷ 48 ∷ 48 ∷ 10 ∷ []
unfolding text densities first_line decimal panel_line line field canonical_bits nodal_values nodal_value coordinate index rows_from file_refusal file_checks marks_differ passes_limits length_differs length_due little_endian some_below tabulate_from first misses_node any_of is_zero_area area raw_normal norm3 dot3 cross3 sub3 fma sqrt square_root triangle_current_density combined triangle_basis_current_densities basis_current_density triangle_scalars of_bits to_bits add sub mul div lt is_nan
document = refl
