-- The replay: what a case of each kind of fixed length compares: inputs from word 0 on, the results behind them. Definitions only.
use Rattle.std.specs.Prelude.{Bool, false, cond, ◌&&◌, List, [], ◌∷◌, ℕ, eqb, get_or, Float}
use Rattle.binary64.specs.Binary64.{at}
use Rattle.ieee754.specs.Ieee754 as Ieee754
use Rattle.elementary.specs.Elementary as Elementary
use Rattle.math.specs.Math as Math
use Rattle.tri.specs.Mapping as Mapping
use Rattle.tri.specs.Tri3 as Tri3
use Rattle.mesh.specs.Mesh as Mesh
use Rattle.potential.specs.Potential as Potential
use Rattle.boundary_element.specs.CurrentDensity as Density
use Rattle.boundary_element.specs.Identity as Identity
use Rattle.panel_distance.specs.Distance as Distance
use Rattle.coupling.specs.Coupling as Coupling
use Rattle.panel_distance.specs.Bisection as Bisection
use Rattle.coupling.specs.Block as Block
use Rattle.coupling.specs.Calls as Calls
use Rattle.replay_words.specs.Words.{vector_at, triangle_at, coordinates_at, rule_of, same_word, same_number, same_vector, same_triangle, same_nine, same_value, same_flag}

-- the case's numbers f and its words w
module _ (f : List Float) (w : List ℕ) where
  abbrev pub fma : Bool
  fma = same_number (Ieee754.fma (at f 0) (at f 1) (at f 2)) w 3

  abbrev pub sqrt : Bool
  sqrt = same_number (Ieee754.sqrt (at f 0)) w 1

  abbrev pub ln : Bool
  ln = same_number (Elementary.ln (at f 0)) w 1

  abbrev pub asinh : Bool
  asinh = same_number (Elementary.asinh (at f 0)) w 1

  abbrev pub atan2 : Bool
  atan2 = same_number (Elementary.atan2 (at f 0) (at f 1)) w 2

  abbrev pub min : Bool
  min = same_number (Ieee754.min (at f 0) (at f 1)) w 2

  abbrev pub max : Bool
  max = same_number (Ieee754.max (at f 0) (at f 1)) w 2

  abbrev pub clamp : Bool
  clamp = same_number (Ieee754.clamp (at f 0) (at f 1) (at f 2)) w 3

  abbrev pub abs : Bool
  abs = same_number (Ieee754.abs (at f 0)) w 1

  abbrev pub square_add : Bool
  square_add = same_number (Ieee754.fma (at f 0) (at f 0) (at f 1)) w 2

  abbrev pub dot3 : Bool
  dot3 = same_number (Math.dot3 (vector_at f 0) (vector_at f 3)) w 6

  abbrev pub cross3 : Bool
  cross3 = same_vector (Math.cross3 (vector_at f 0) (vector_at f 3)) w 6

  abbrev pub norm3 : Bool
  norm3 = same_number (Math.norm3 (vector_at f 0)) w 3

  abbrev pub normalize3 : Bool
  normalize3 = same_vector (Math.normalize3 (vector_at f 0)) w 3

  abbrev pub add_scaled3 : Bool
  add_scaled3 = same_vector (Math.add_scaled3 (vector_at f 0) (vector_at f 3) (at f 6)) w 7

  abbrev pub sub3 : Bool
  sub3 = same_vector (Math.sub3 (vector_at f 0) (vector_at f 3)) w 6

  abbrev pub add3 : Bool
  add3 = same_vector (Math.add3 (vector_at f 0) (vector_at f 3)) w 6

  abbrev pub scale3 : Bool
  scale3 = same_vector (Math.scale3 (vector_at f 0) (at f 3)) w 4

  abbrev pub closest_point : Bool
  closest_point = same_vector (Tri3.closest_point (vector_at f 0) (triangle_at f 3)) w 12

  abbrev pub area : Bool
  area = same_number (Mapping.area (triangle_at f 0)) w 9

  abbrev pub quality : Bool
  quality = same_number (Mesh.quality (triangle_at f 0)) w 9

  abbrev pub potential : Bool
  potential = same_number (Potential.scalar_potential (Potential.uniform_triangle (triangle_at f 0)) (vector_at f 9)) w 12

  abbrev pub gradient : Bool
  gradient = same_vector (Potential.scalar_potential_gradient (Potential.uniform_triangle (triangle_at f 0)) (vector_at f 9)) w 12

  abbrev pub contact : Bool
  contact = same_flag (Potential.contains_on_surface (Potential.uniform_triangle (triangle_at f 0)) (vector_at f 9)) w 12

  abbrev pub basis_densities : Bool
  basis_densities = same_triangle (Density.triangle_basis_current_densities (triangle_at f 0)) w 9

  abbrev pub panel_density : Bool
  panel_density = same_vector (Density.triangle_current_density (triangle_at f 0) (vector_at f 9)) w 12

  abbrev pub map_point : Bool
  map_point = same_vector (Mapping.map_point (triangle_at f 0) (at f 9) (at f 10)) w 11

  abbrev pub normal : Bool
  normal = same_vector (Mapping.normal (triangle_at f 0)) w 9

  abbrev pub identical : Bool
  identical = same_flag (Identity.triangles_identical (triangle_at f 0) (triangle_at f 9)) w 18

  abbrev pub box_distance : Bool
  box_distance = same_number (Distance.triangle_aabb_distance_squared (triangle_at f 0) (triangle_at f 9)) w 18

  abbrev pub panel_distance : Bool
  panel_distance = same_number (Distance.triangle_distance_squared (triangle_at f 0) (triangle_at f 9)) w 18

  abbrev pub longest_edge : Bool
  longest_edge = same_number (Distance.triangle_max_edge_squared (triangle_at f 0)) w 9

  abbrev pub is_far : Bool
  is_far = same_flag (Coupling.is_far (triangle_at f 0) (triangle_at f 9)) w 18

  abbrev pub point_distance : Bool
  point_distance = same_number (Distance.point_triangle_distance_squared (vector_at f 0) (triangle_at f 3)) w 12

  abbrev pub segment_distance : Bool
  segment_distance = same_number (Distance.segment_distance_squared (vector_at f 0) (vector_at f 3) (vector_at f 6) (vector_at f 9)) w 12

  abbrev pub block_energy : Bool
  block_energy = same_number (Block.inductance_from_potential_vectors (coordinates_at f 0) (vector_at f 9) (vector_at f 12)) w 15

  abbrev pub geometric_coupling : Bool
  geometric_coupling =
      let a = Calls.triangle_geometric_coupling (rule_of (get_or w 0 0)) (triangle_at f 1) (triangle_at f 10) in
      same_value a.refusal a.value w 19

  abbrev pub geometric_coupling_regular : Bool
  geometric_coupling_regular =
      let a = Calls.triangle_geometric_coupling_regular (rule_of (get_or w 0 0)) (triangle_at f 1) (triangle_at f 10) in
      same_value a.refusal a.value w 19

  abbrev pub mutual_inductance_block : Bool
  mutual_inductance_block =
      let a = Calls.triangle_basis_mutual_inductance_block (rule_of (get_or w 0 0)) (triangle_at f 1) (triangle_at f 10) in
      same_word a.refusal w 19 && same_nine a.values w 20

  abbrev pub mutual_inductance : Bool
  mutual_inductance =
      let a = Calls.triangle_basis_mutual_inductance (rule_of (get_or w 0 0)) (triangle_at f 1) (get_or w 10 0) (triangle_at f 11) (get_or w 20 0) in
      same_value a.refusal a.value w 21

  abbrev pub bisect : Bool
  bisect =
      let h = Bisection.longest_edge_bisection (triangle_at f 0) in
      same_triangle (get_or h 0 []) w 9 && same_triangle (get_or h 1 []) w 18

  abbrev pub panel_record : Bool
  panel_record =
      let p = Potential.uniform_triangle (triangle_at f 0) in
      same_triangle p.nodes w 9
      && same_vector p.normal w 18
      && same_triangle p.edge_tangent w 21
      && same_triangle p.edge_outward w 30
      && same_vector p.edge_length w 39
      && same_number p.max_edge w 42

-- ---- by the kind's number

-- the entry of a table by its key; false where there is none
unfoldable pub chosen : ℕ → List (ℕ × Bool) → Bool
chosen kind [] = false
chosen kind (e ∷ t) = cond (eqb kind e.0) e.1 (chosen kind t)

unfoldable pub numbers_agree : ℕ → List Float → List ℕ → Bool
numbers_agree kind f w =
    chosen kind
    ((1, fma f w)
    ∷ (2, sqrt f w)
    ∷ (3, ln f w)
    ∷ (4, asinh f w)
    ∷ (5, atan2 f w)
    ∷ (49, min f w)
    ∷ (50, max f w)
    ∷ (51, clamp f w)
    ∷ (52, abs f w)
    ∷ (53, square_add f w)
    ∷ [])

unfoldable pub vectors_agree : ℕ → List Float → List ℕ → Bool
vectors_agree kind f w =
    chosen kind
    ((6, dot3 f w)
    ∷ (7, cross3 f w)
    ∷ (8, norm3 f w)
    ∷ (44, normalize3 f w)
    ∷ (45, add_scaled3 f w)
    ∷ (46, sub3 f w)
    ∷ (47, add3 f w)
    ∷ (48, scale3 f w)
    ∷ [])

unfoldable pub panels_agree : ℕ → List Float → List ℕ → Bool
panels_agree kind f w =
    chosen kind
    ((9, closest_point f w)
    ∷ (10, area f w)
    ∷ (11, quality f w)
    ∷ (13, potential f w)
    ∷ (14, gradient f w)
    ∷ (15, contact f w)
    ∷ (23, basis_densities f w)
    ∷ (24, panel_density f w)
    ∷ (42, map_point f w)
    ∷ (43, normal f w)
    ∷ [])

unfoldable pub pairs_agree : ℕ → List Float → List ℕ → Bool
pairs_agree kind f w =
    chosen kind
    ((41, identical f w)
    ∷ (54, box_distance f w)
    ∷ (55, panel_distance f w)
    ∷ (56, longest_edge f w)
    ∷ (57, is_far f w)
    ∷ (37, point_distance f w)
    ∷ (38, segment_distance f w)
    ∷ (40, block_energy f w)
    ∷ [])

unfoldable pub calls_agree : ℕ → List Float → List ℕ → Bool
calls_agree kind f w =
    chosen kind
    ((17, geometric_coupling f w)
    ∷ (39, geometric_coupling_regular f w)
    ∷ (18, mutual_inductance_block f w)
    ∷ (19, mutual_inductance f w)
    ∷ (16, bisect f w)
    ∷ (12, panel_record f w)
    ∷ [])
