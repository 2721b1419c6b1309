-- The replay: what a case of the inductance matrix compares: behind the rule and the mesh stands the output's length, then number and cells. Definitions only.
use Rattle.std.specs.Prelude.{Bool, false, cond, ◌&&◌, List, ℕ, ◌+◌, eqb, length, get_or, Float}
use Rattle.refusal.specs.Checks.{after}
use Rattle.mesh.specs.Mesh.{Mesh}
use Rattle.tri.specs.Quadrature.{quadrature_rule}
use Rattle.inductance.specs.Assembly as Assembly
use Rattle.inductance.specs.Matrix as Matrix
use Rattle.replay_words.specs.Words.{cut_at, rule_of, same_word}
use Rattle.replay_words.specs.Buffers.{lent, held}
use Rattle.replay_columns.specs.Columns.{column_at, mesh_at}

unfoldable pub matrix_into : ℕ → Mesh → List Float → List ℕ → ℕ → Bool
matrix_into rule m out w k =
    let r = Assembly.matrix_refusal (quadrature_rule rule) m (length out) in
    same_word r w k && held r (after r (Matrix.matrix (Assembly.block_under (quadrature_rule rule)) m) out) w (k + 1)

unfoldable pub matrix_of : ℕ → Mesh → List ℕ → ℕ → Bool
matrix_of rule m w g = matrix_into rule m (lent 576 (cut_at w g 576)) w (g + 1)

unfoldable pub matrix_case : List Float → List ℕ → List ℕ → Bool
matrix_case f u w = matrix_of (rule_of (get_or w 0 0)) (mesh_at f u w 1) w (column_at w 1 6)

unfoldable pub matrices_agree : ℕ → List Float → List ℕ → List ℕ → Bool
matrices_agree kind f u w = cond (eqb kind 25) (matrix_case f u w) false
