-- inductance.rs: the mutual inductance of the corners of two triangles, three by three, in nine numbers row by row.
use Rattle.std.specs.Prelude.{ℕ, ◌+◌, ◌*◌, List, [], ◌∷◌, ◌++◌, get_or, Float}
use Rattle.binary64.specs.Binary64.{◌⊕◌, ◌⊗◌, at, plus_zero}
use Rattle.math.specs.Math.{Vec, dot3, mu0_over4_pi}
use Rattle.tri.specs.Mapping.{Tri}
use Rattle.tri.specs.declared.quadrature.QuadratureKind.{QuadratureKind}
use Rattle.boundary_element.specs.CurrentDensity.{triangle_basis_current_densities}
use Rattle.coupling.specs.Coupling.{geometric_coupling}

-- the entry of two corners, of their densities
unfoldable pub entry : Float → Vec → Vec → Float
entry g ksrc ktgt = mu0_over4_pi ⊗ g ⊗ dot3 ksrc ktgt

-- the entries of one source corner
unfoldable pub block_row : Float → Vec → List Vec → List Float
block_row g ksrc ktgt = entry g ksrc (get_or ktgt 0 []) ∷ entry g ksrc (get_or ktgt 1 []) ∷ entry g ksrc (get_or ktgt 2 []) ∷ []

unfoldable pub block_from_coupling : Float → List Vec → List Vec → List Float
block_from_coupling g ksrc ktgt = block_row g (get_or ksrc 0 []) ktgt ++ block_row g (get_or ksrc 1 []) ktgt ++ block_row g (get_or ksrc 2 []) ktgt

unfoldable pub mutual_inductance_block : QuadratureKind → Tri → Tri → List Float
mutual_inductance_block kind source target =
    block_from_coupling (geometric_coupling kind source target) (triangle_basis_current_densities source) (triangle_basis_current_densities target)

-- (s_i · M_ij) · t_j
abbrev pub term : List Float → List Float → List Float → ℕ → ℕ → Float
term m s t i j = at s i ⊗ at m (i * 3 + j) ⊗ at t j

-- triangle_inductance_from_potential_vectors: nine terms, added in the block's order to +0
unfoldable pub inductance_from_potential_vectors : List Float → List Float → List Float → Float
inductance_from_potential_vectors m s t =
    plus_zero ⊕ term m s t 0 0 ⊕ term m s t 0 1 ⊕ term m s t 0 2
    ⊕ term m s t 1 0 ⊕ term m s t 1 1 ⊕ term m s t 1 2
    ⊕ term m s t 2 0 ⊕ term m s t 2 1 ⊕ term m s t 2 2
