-- boundary_element/mod.rs: the current density of nodal stream-function values on a panel, and on every panel of a mesh. Definitions only.
use Rattle.std.specs.Prelude.{ℕ, ◌≡◌, ◌↔◌, not, List, [], ◌∷◌, ◌++◌, eqb, length, get_or, set, Float}
use Rattle.binary64.specs.Binary64.{◌⊕◌, ◌⊖◌, ◌⊗◌, ◌⊘◌, at}
use Rattle.math.specs.Math.{Vec, sub3}
use Rattle.tri.specs.Mapping.{Tri, corner, area}
use Rattle.refusal.specs.Numbers.{nodal_values, output_length, zero_area}
use Rattle.refusal.specs.Checks.{Check, check, first, after}
use Rattle.lists.specs.Columns.{columns_differ, ColumnsDue}
use Rattle.lists.specs.Filling.{tabulate}
use Rattle.mesh.specs.Conditions.{Refused4, Accepted, MeshNumbered}
use Rattle.mesh.specs.Mesh.{Mesh, nnode, ntri, triangle_indices, triangle_nodes, mesh_checks, max_nodes, max_panels}

-- the triangle with corner 1 first, then 2 and 0
abbrev pub turned : Tri → Tri
turned t = corner t 1 ∷ corner t 2 ∷ corner t 0 ∷ []

-- the density of a unit value at corner 0: ((n1 − n0) − (n2 − n0)) / (A + A)
unfoldable pub basis_current_density : Tri → Vec
basis_current_density t =
    let v01 = sub3 (corner t 1) (corner t 0) in
    let v02 = sub3 (corner t 2) (corner t 0) in
    let twoArea = area t ⊕ area t in
    ((at v01 0 ⊖ at v02 0) ⊘ twoArea) ∷ ((at v01 1 ⊖ at v02 1) ⊘ twoArea) ∷ ((at v01 2 ⊖ at v02 2) ⊘ twoArea) ∷ []

-- the three densities, each with the area of the triangle turned to its corner, which can differ in the last bit
unfoldable pub triangle_basis_current_densities : Tri → List Vec
triangle_basis_current_densities t = basis_current_density t ∷ basis_current_density (turned t) ∷ basis_current_density (turned (turned t)) ∷ []

-- component c of s0·b0 + s1·b1 + s2·b2
unfoldable pub combined : List Vec → List Float → ℕ → Float
combined b s c = at s 0 ⊗ at (get_or b 0 []) c ⊕ at s 1 ⊗ at (get_or b 1 []) c ⊕ at s 2 ⊗ at (get_or b 2 []) c

unfoldable pub triangle_current_density : Tri → List Float → Vec
triangle_current_density t s =
    let b = triangle_basis_current_densities t in
    combined b s 0 ∷ combined b s 1 ∷ combined b s 2 ∷ []

-- ---- on a mesh
-- the nodal values at three nodes
unfoldable pub triangle_scalars : List ℕ → List Float → List Float
triangle_scalars indices s = at s (get_or indices 0 0) ∷ at s (get_or indices 1 0) ∷ at s (get_or indices 2 0) ∷ []

-- the density of panel i
abbrev pub panel_density : Mesh → List Float → ℕ → Vec
panel_density m s i = triangle_current_density (triangle_nodes m i) (triangle_scalars (triangle_indices m i) s)

-- component c of the density of every panel
unfoldable pub current_densities : Mesh → List Float → ℕ → List Float
current_densities m s c = tabulate (ntri m) (λ i. at (panel_density m s i) c)

-- three columns with the densities of every panel
abbrev pub Currents : Mesh → List Float → List Float → List Float → List Float → Type 0
Currents m s jx jy jz = (jx ≡ current_densities m s 0) × (jy ≡ current_densities m s 1) × (jz ≡ current_densities m s 2)

-- the checks after the mesh's, for n nodes and p panels: a value a node, one number a panel in each output
abbrev pub density_checks : ℕ → ℕ → ℕ → ℕ → ℕ → ℕ → List Check
density_checks n p values lx ly lz = check nodal_values (not (eqb values n)) ∷ check output_length (columns_differ p lx ly lz) ∷ []

unfoldable pub density_refusal : Mesh → ℕ → ℕ → ℕ → ℕ → ℕ
density_refusal m values lx ly lz = first (mesh_checks max_nodes max_panels m ++ density_checks (nnode m) (ntri m) values lx ly lz)

-- a number is the call's exactly if its condition holds and no earlier one's; nothing is tested before the mesh
pub record DensityNumbered (m : Mesh) (values lx ly lz r : ℕ) : Type 0 where
  pub mesh : MeshNumbered Unit max_nodes max_panels m r
  pub is_4 : (r ≡ zero_area) ↔ Refused4 max_nodes max_panels m
  pub is_5 : (r ≡ nodal_values) ↔ (Accepted max_nodes max_panels m × (values ≡ nnode m → ⊥))
  pub is_6 : (r ≡ output_length) ↔ (Accepted max_nodes max_panels m × (values ≡ nnode m) × (ColumnsDue (ntri m) lx ly lz → ⊥))
  pub is_0 : (r ≡ 0) ↔ (Accepted max_nodes max_panels m × (values ≡ nnode m) × ColumnsDue (ntri m) lx ly lz)

-- three columns with v at index i
pub record Stored (a b c : List Float) (i : ℕ) (v : Vec) (a' b' c' : List Float) : Type 0 where
  pub first : a' ≡ set a i (at v 0)
  pub second : b' ≡ set b i (at v 1)
  pub third : c' ≡ set c i (at v 2)

-- columns of one number a panel for a mesh that was accepted, and nodal values for it
pub record DensityReady (m : Mesh) (s a b c : List Float) : Type 0 where
  pub accepted : Accepted max_nodes max_panels m
  pub values : length s ≡ nnode m
  pub due : ColumnsDue (ntri m) (length a) (length b) (length c)

-- what the call answers and leaves in its three outputs
pub record Densities (m : Mesh) (s jx jy jz : List Float) (r : ℕ) (jx' jy' jz' : List Float) : Type 0 where
  pub number : r ≡ density_refusal m (length s) (length jx) (length jy) (length jz)
  pub x : jx' ≡ after r (current_densities m s 0) jx
  pub y : jy' ≡ after r (current_densities m s 1) jy
  pub z : jz' ≡ after r (current_densities m s 2) jz
