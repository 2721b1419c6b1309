-- inductance.rs: a matrix contracted with nodal values, `triangle_mesh_inductance_from_potential_vectors` and `triangle_mesh_inductive_energy`. Nothing is fused. Definitions only.
use Rattle.std.specs.Prelude.{not, List, [], ◌∷◌, ℕ, zero, suc, ◌*◌, eqb, ltb, length, Float}
use Rattle.binary64.specs.Binary64.{◌⊗◌, at, plus_zero, half}
use Rattle.refusal.specs.Numbers.{nodal_values, matrix_length, too_large}
use Rattle.refusal.specs.Checks.{Check, check, first}
use Rattle.mesh.specs.Mesh.{max_nodes}
use Rattle.lists.specs.Sums.{running_sum}
use Rattle.linkage.specs.Answer.{Answered}
use Rattle.lists.specs.Stretch.{stretch}

-- x, and the first k products of row i added to it: (s_i · L_ij) · t_j
abbrev pub row_added : List Float → List Float → List Float → ℕ → Float → ℕ → Float
row_added row s t i x k = running_sum x (λ j. at s i ⊗ at row j ⊗ at t j) k

-- the first i rows
unfoldable pub rows_added : List Float → List Float → List Float → ℕ → Float
rows_added l s t zero = plus_zero
rows_added l s t (suc i) = row_added (stretch l (length s) i) s t i (rows_added l s t i) (length s)

abbrev pub from_potential_vectors : List Float → List Float → List Float → Float
from_potential_vectors l s t = rows_added l s t (length s)

abbrev pub inductive_energy : List Float → List Float → Float
inductive_energy l s = half ⊗ from_potential_vectors l s s

-- 11, 7: n nodal values against a matrix of so many numbers
abbrev pub matrix_checks : ℕ → ℕ → List Check
matrix_checks n size = check too_large (ltb max_nodes n) ∷ check matrix_length (not (eqb size (n * n))) ∷ []

unfoldable pub energy_refusal : ℕ → ℕ → ℕ
energy_refusal n size = first (matrix_checks n size)

-- 5, 11, 7
unfoldable pub vectors_refusal : ℕ → ℕ → ℕ → ℕ
vectors_refusal n nt size = first (check nodal_values (not (eqb nt n)) ∷ matrix_checks n size)

-- what the two calls answer
abbrev pub VectorsAnswered : List Float → List Float → List Float → ℕ → Float → Type 0
VectorsAnswered l s t r v = Answered (vectors_refusal (length s) (length t) (length l)) (from_potential_vectors l s t) r v

abbrev pub EnergyAnswered : List Float → List Float → ℕ → Float → Type 0
EnergyAnswered l s r v = Answered (energy_refusal (length s) (length l)) (inductive_energy l s) r v
