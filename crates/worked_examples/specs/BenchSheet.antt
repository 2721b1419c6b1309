-- Document 01's bench sheet: the starred facts, each a field, in the definitions of the library. Definitions only.
use Rattle.std.specs.Prelude.{◌≡◌, true, false, List, [], ◌∷◌, pos, length, Float}
use Rattle.std.specs.Float.{binary64}
use Rattle.std.specs.Float.Ieee.{neg, to_bits}
use Rattle.binary64.specs.Binary64.{◌⊕◌, ◌⊖◌, bits, plus_zero, half, one, two, four, three, six}
use Rattle.ieee754.specs.Ieee754.{fma, sqrt}
use Rattle.math.specs.Math.{Vec}
use Rattle.tri.specs.Mapping.{Tri}
use Rattle.tri.specs.declared.quadrature.QuadratureKind.{QuadratureKind}
use Rattle.refusal.specs.Checks.{after}
use Rattle.mesh.specs.Mesh.{Mesh, mesh_of, mesh_refusal, tested_count, max_nodes, max_panels}
use Rattle.potential.specs.Potential.{uniform_triangle}
use Rattle.panel_distance.specs.Bisection.{longest_edge, longest_edge_bisection}
use Rattle.coupling.specs.Coupling.{is_far, geometric_coupling, triangle_geometric_coupling_exact_fixed, near_depth, triangle_geometric_coupling_regular_symmetric}
use Rattle.linkage.specs.Energy.{energy_refusal, inductive_energy}
use Rattle.linkage.specs.Flux.{flux_linkage, interaction_energy, map_refusal}
use Rattle.display.specs.Display.{display_refusal, shown}

-- ---- the sheet's numbers that have no name yet
-- 2^-30
abbrev pub small : Float
small = bits 0x3e10_0000_0000_0000

abbrev pub five : Float
five = bits 0x4014_0000_0000_0000

-- 5.000000000000001, the next number above 5
abbrev pub above_five : Float
above_five = bits 0x4014_0000_0000_0001

-- ---- its panels
-- corners (0,0,0), (1,0,0), (0,height,0) as a mesh
abbrev pub thin : Float → Mesh
thin height = mesh_of (plus_zero ∷ one ∷ plus_zero ∷ []) (plus_zero ∷ plus_zero ∷ height ∷ []) (plus_zero ∷ plus_zero ∷ plus_zero ∷ []) (0 ∷ []) (1 ∷ []) (2 ∷ [])

-- their heights 2e-14 and 1.9e-14
abbrev pub thin_height : Float
thin_height = bits 0x3d16_849b_86a1_2b9b

abbrev pub thinner_height : Float
thinner_height = bits 0x3d15_6460_8cb2_b63a

-- (0,0,0), (3,0,0), (0,4,0), raised by z
abbrev pub raised : Float → Tri
raised z = (plus_zero ∷ plus_zero ∷ z ∷ []) ∷ (three ∷ plus_zero ∷ z ∷ []) ∷ (plus_zero ∷ four ∷ z ∷ []) ∷ []

-- (0,0,0), (1,0,0), (0,1,0)
abbrev pub unit : Tri
unit = (plus_zero ∷ plus_zero ∷ plus_zero ∷ []) ∷ (one ∷ plus_zero ∷ plus_zero ∷ []) ∷ (plus_zero ∷ one ∷ plus_zero ∷ []) ∷ []

-- its halves at (0.5, 0.5, 0) between corners 1 and 2
abbrev pub middle : Vec
middle = half ∷ half ∷ plus_zero ∷ []

abbrev pub unit_halves : List Tri
unit_halves =
    ((one ∷ plus_zero ∷ plus_zero ∷ []) ∷ middle ∷ (plus_zero ∷ plus_zero ∷ plus_zero ∷ []) ∷ [])
    ∷ (middle ∷ (plus_zero ∷ one ∷ plus_zero ∷ []) ∷ (plus_zero ∷ plus_zero ∷ plus_zero ∷ []) ∷ [])
    ∷ []

-- ---- its map, matrix and values
abbrev pub sheet_map : List Float
sheet_map = one ∷ two ∷ three ∷ four ∷ []

abbrev pub sheet_coefficients : List Float
sheet_coefficients = five ∷ six ∷ []

abbrev pub sheet_values : List Float
sheet_values = one ∷ one ∷ []

-- 17 and 39
abbrev pub sheet_flux : List Float
sheet_flux = bits 0x4031_0000_0000_0000 ∷ bits 0x4043_8000_0000_0000 ∷ []

abbrev pub identity : List Float
identity = one ∷ plus_zero ∷ plus_zero ∷ one ∷ []

abbrev pub nodal_values : List Float
nodal_values = three ∷ four ∷ []

-- 1/1024
abbrev pub inductance : Float
inductance = bits 0x3f50_0000_0000_0000

-- the starred facts: of each call its number, 0 where it is done, and what it gives
pub record BenchSheet : Type 0 where
  -- (1 + 2^-30) × (1 − 2^-30) − 1 = −2^-60
  pub fused : fma (one ⊕ small) (one ⊖ small) (neg one) ≡ neg (bits 0x3c30_0000_0000_0000)
  pub root_of_minus_zero : sqrt (neg plus_zero) ≡ neg plus_zero
  pub root_of_two : to_bits binary64 (sqrt two) ≡ 0x3ff6_a09e_667f_3bcd
  -- the mesh test counts the one poor panel, and nothing on a refusal
  pub thin-accepted : mesh_refusal max_nodes max_panels (thin thin_height) ≡ 0
  pub thin-count : tested_count (thin thin_height) 0 ≡ 1
  pub thinner_refused : mesh_refusal max_nodes max_panels (thin thinner_height) ≡ 4
  pub thinner_count : tested_count (thin thinner_height) 4 ≡ 0
  -- near and far are rules: under each quadrature rule the coupling is the one by that rule
  pub near_at_five : is_far (raised plus_zero) (raised five) ≡ false
  pub near_rule : (kind : QuadratureKind)
      → geometric_coupling kind (raised plus_zero) (raised five) ≡ triangle_geometric_coupling_exact_fixed (uniform_triangle (raised plus_zero)) (raised five) near_depth
  pub far-above-five : is_far (raised plus_zero) (raised above_five) ≡ true
  pub far_rule : (kind : QuadratureKind)
      → geometric_coupling kind (raised plus_zero) (raised above_five) ≡ triangle_geometric_coupling_regular_symmetric kind (raised plus_zero) (raised above_five)
  -- edge 1 goes from corner 1 to corner 2
  pub split_edge : longest_edge unit ≡ 1
  pub split_point : longest_edge_bisection unit ≡ unit_halves
  -- two rows, for two outputs or two nodal values
  pub map-accepted : map_refusal (length sheet_map) (length sheet_coefficients) 2 ≡ 0
  pub flux_17_39 : flux_linkage sheet_map sheet_coefficients 2 ≡ sheet_flux
  pub energy_56 : interaction_energy sheet_map sheet_values sheet_coefficients ≡ bits 0x404c_0000_0000_0000
  -- no sources and one output, whether the map is empty or not; the output keeps its number
  pub no_sources : map_refusal 0 0 1 ≡ 8
  pub no_sources_map : map_refusal (length sheet_map) 0 1 ≡ 8
  pub no_sources_output : (held : Float) → after 8 (flux_linkage [] [] 1) (held ∷ []) ≡ held ∷ []
  pub matrix-accepted : energy_refusal (length nodal_values) (length identity) ≡ 0
  pub energy_12_and_a_half : inductive_energy identity nodal_values ≡ bits 0x4029_0000_0000_0000
  pub display-accepted : display_refusal inductance ≡ 0
  pub displayed : shown inductance ≡ pos 976562
