-- The replay: what a case of the move compares: number, count, matrix and nodes; on a refusal matrix and nodes with what they were. Definitions only.
use Rattle.std.specs.Prelude.{Bool, false, cond, List, ℕ, ◌+◌, eqb, length, get_or, Float}
use Rattle.binary64.specs.Binary64.{at}
use Rattle.tri.specs.Quadrature.{quadrature_rule}
use Rattle.refusal.specs.Checks.{after}
use Rattle.mesh.specs.Mesh.{Mesh, nnode}
use Rattle.scatter.specs.Entries.{same}
use Rattle.scatter.specs.Renewal.{renewed}
use Rattle.inductance.specs.Matrix.{cell}
use Rattle.inductance.specs.Assembly.{block_under}
use Rattle.node_move.specs.Move.{moved, ring, named_count, move_refusal}
use Rattle.replay_words.specs.Words.{cut_at, rule_of, part, vector_at}
use Rattle.replay_columns.specs.After.{left_as_due}
use Rattle.replay_columns.specs.Columns.{column_at, mesh_at}

-- the move of node v to the place p, under a rule by its number
unfoldable pub move_into : ℕ → Mesh → List Float → ℕ → List Float → List ℕ → ℕ → Bool
move_into number m cells v p w k =
    let rule = quadrature_rule number in
    let new = moved m v (at p 0) (at p 1) (at p 2) in
    let r = move_refusal rule m (length cells) v (at p 0) (at p 1) (at p 2) in
    let count = cond (eqb r 0) (named_count (ring m (same v)) (nnode m)) 0 in
    let left = after r (renewed (ring m (same v)) (cell (block_under rule) new) (nnode m) cells) cells in
    left_as_due r count (after r new.xs m.xs) (after r new.ys m.ys) (after r new.zs m.zs) left m.xs m.ys m.zs cells w k

-- behind the mesh: matrix, node, place
unfoldable pub move_of : ℕ → Mesh → List Float → List ℕ → ℕ → Bool
move_of rule m f w g =
    let n = cut_at w g 576 in
    move_into rule m (part f (g + 1) (g + 1 + n)) (get_or w (g + 1 + n) 0) (vector_at f (g + 2 + n)) w (g + 5 + n)

unfoldable pub move_case : List Float → List ℕ → List ℕ → Bool
move_case f u w = move_of (rule_of (get_or w 0 0)) (mesh_at f u w 1) f w (column_at w 1 6)

unfoldable pub moves_agree : ℕ → List Float → List ℕ → List ℕ → Bool
moves_agree kind f u w = cond (eqb kind 30) (move_case f u w) false
