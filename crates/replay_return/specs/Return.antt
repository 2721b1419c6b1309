-- The replay: what a case of the return to a named shape compares: number and count, and of a return that is done the matrix and the columns that it leaves. Definitions only.
use Rattle.std.specs.Prelude.{Bool, false, cond, List, ℕ, ◌+◌, eqb, length, get_or, Float}
use Rattle.refusal.specs.Checks.{after}
use Rattle.tri.specs.Quadrature.{quadrature_rule}
use Rattle.mesh.specs.Mesh.{Mesh, nnode}
use Rattle.scatter.specs.Renewal.{renewed}
use Rattle.inductance.specs.Matrix.{cell}
use Rattle.inductance.specs.Assembly.{block_under}
use Rattle.node_ring.specs.Ring.{named_count}
use Rattle.shape_store.specs.Store.{Store}
use Rattle.shape_return.specs.Return.{changed_ring, named_shape, return_refusal}
use Rattle.replay_words.specs.Words.{cut_at, rule_of, part}
use Rattle.replay_columns.specs.After.{left_as_due}
use Rattle.replay_columns.specs.Columns.{column_at, mesh_at}
use Rattle.replay_columns.specs.Store.{part_at, name_at}
use Rattle.replay_shapes.specs.Shapes.{store_at}

-- the return to the shape of a name, under a rule by its number
unfoldable pub return_to : ℕ → Mesh → List Float → Store → List ℕ → List ℕ → ℕ → Bool
return_to number m cells s name w k =
    let rule = quadrature_rule number in
    let new = named_shape m s name in
    let r = return_refusal rule m s name (length cells) in
    let count = cond (eqb r 0) (named_count (changed_ring m new) (nnode m)) 0 in
    let left = after r (renewed (changed_ring m new) (cell (block_under rule) new) (nnode m) cells) cells in
    left_as_due r count (after r new.xs m.xs) (after r new.ys m.ys) (after r new.zs m.zs) left m.xs m.ys m.zs cells w k

-- the store begins at place q, the name stands behind it, the results behind the name
unfoldable pub return_into : ℕ → Mesh → List Float → List ℕ → List Float → List ℕ → ℕ → Bool
return_into number m cells b f w q =
    let e = part_at w q 5 in
    return_to number m cells (store_at b f w q) (name_at b e) w (e + 1)

-- behind the mesh: matrix, store, name
unfoldable pub return_of : ℕ → Mesh → List ℕ → List Float → List ℕ → ℕ → Bool
return_of number m b f w g =
    let q = g + 1 + cut_at w g 576 in
    return_into number m (part f (g + 1) q) b f w q

unfoldable pub return_case : List ℕ → List Float → List ℕ → List ℕ → Bool
return_case b f u w = return_of (rule_of (get_or w 0 0)) (mesh_at f u w 1) b f w (column_at w 1 6)

unfoldable pub returns_agree : ℕ → List ℕ → List Float → List ℕ → List ℕ → Bool
returns_agree kind b f u w = cond (eqb kind 61) (return_case b f u w) false
