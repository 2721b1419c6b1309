-- inductance.rs, `triangle_mesh_inductance_matrix`, with document 01's numbers: the call's number, and what it leaves. Definitions only.
use Rattle.std.specs.Prelude.{◌≡◌, ◌↔◌, Bool, not, List, [], ◌∷◌, ◌++◌, ℕ, ◌*◌, eqb, length, Float}
use Rattle.tri.specs.Quadrature.{quadrature_rule, NoSuchRule, is_unknown}
use Rattle.tri.specs.declared.quadrature.QuadratureKind.{QuadratureKind}
use Rattle.tri.specs.Quadrature.{Rule}
use Rattle.std.specs.Prelude.{Some, None}
use Rattle.refusal.specs.Numbers.{no_such_choice, output_length, zero_area}
use Rattle.refusal.specs.Checks.{Check, check, first, after}
use Rattle.mesh.specs.Mesh.{Mesh, nnode, mesh_checks, max_nodes, max_panels}
use Rattle.mesh.specs.Conditions.{Refused4, Accepted, MeshNumbered}
use Rattle.coupling.specs.Block.{mutual_inductance_block}
use Rattle.pair_loops.specs.Additions.{Block}
use Rattle.scatter.specs.Renewal.{marked, renewed}
use Rattle.scatter.specs.Mirror.{Symmetric}
use Rattle.inductance.specs.Matrix.{cell, matrix}

-- the block under a rule; without a rule the call is refused and no block is asked for
abbrev pub block_under : Rule → Block
block_under (Some kind) = mutual_inductance_block kind
block_under None = λ s t. []

-- the matrix out with the cells of marked nodes' rows and columns fresh, under a rule that there is
abbrev pub renewed_under : QuadratureKind → List Bool → Mesh → List Float → List Float
renewed_under kind marks m out = renewed (marked marks) (cell (mutual_inductance_block kind) m) (nnode m) out

-- 6, after the mesh's checks: the output has not n × n numbers
abbrev pub size_checks : ℕ → ℕ → List Check
size_checks n size = check output_length (not (eqb size (n * n))) ∷ []

unfoldable pub sized_refusal : Mesh → ℕ → ℕ
sized_refusal m size = first (mesh_checks max_nodes max_panels m ++ size_checks (nnode m) size)

-- 12, 1, 2, 11, 3, 4, 6
unfoldable pub matrix_refusal : Rule → Mesh → ℕ → ℕ
matrix_refusal rule m size = first (check no_such_choice (is_unknown rule) ∷ mesh_checks max_nodes max_panels m ++ size_checks (nnode m) size)

-- a number is the call's exactly if its condition holds and no earlier one's
pub record Numbered (number : ℕ) (m : Mesh) (size r : ℕ) : Type 0 where
  pub is_12 : (r ≡ no_such_choice) ↔ NoSuchRule number
  pub mesh : MeshNumbered (NoSuchRule number → ⊥) max_nodes max_panels m r
  pub is_4 : (r ≡ zero_area) ↔ ((NoSuchRule number → ⊥) × Refused4 max_nodes max_panels m)
  pub is_6 : (r ≡ output_length) ↔ ((NoSuchRule number → ⊥) × Accepted max_nodes max_panels m × (size ≡ nnode m * nnode m → ⊥))
  pub is_0 : (r ≡ 0) ↔ ((NoSuchRule number → ⊥) × Accepted max_nodes max_panels m × (size ≡ nnode m * nnode m))

-- what the call answers and leaves, for a rule by its number; symmetric: a call that is done leaves (a, b) and (b, a) alike
pub record Assembled (number : ℕ) (m : Mesh) (out : List Float) (r : ℕ) (out' : List Float) : Type 0 where
  pub refusal : r ≡ matrix_refusal (quadrature_rule number) m (length out)
  pub cells : out' ≡ after r (matrix (block_under (quadrature_rule number)) m) out
  pub symmetric : r ≡ 0 → Symmetric (nnode m) out'

-- the same for a rule that there is
pub record AssembledUnder (kind : QuadratureKind) (m : Mesh) (out : List Float) (r : ℕ) (out' : List Float) : Type 0 where
  pub refusal : r ≡ sized_refusal m (length out)
  pub cells : out' ≡ after r (matrix (mutual_inductance_block kind) m) out
  pub symmetric : r ≡ 0 → Symmetric (nnode m) out'
