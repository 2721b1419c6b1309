-- The move on the definitions, for any sum of the contributions in order: a node outside the ring is on no panel that holds the moved node, so that a cell that is not named keeps its
-- contributions and a fresh matrix, renewed, is the moved mesh's.
use mathlib.Core.Path.{◌≡◌, refl, sym, ap, ◌∙◌}
use mathlib.Core.Bool.{Bool, false, ◌||◌}
use mathlib.Core.List.{List}
use Prim.Native.Nat.{ℕ, ◌*◌, ◌-◌}
use native.Mathlib.Nat.{lt_of_lt_of_le}
use lib.ListN.{length-set, replicate}
use lib.Ieee.{Float}
use borrow.Author.Tests.{eqb-false}
use Rattle.lists.specs.Counting.{count_below}
use Rattle.mesh.specs.Mesh.{Mesh, nnode, max_nodes}
use Rattle.scatter.specs.Entries.{same, contributions, cell_sum, square}
use Rattle.scatter.specs.Renewal.{marked, renewed}
use Rattle.scatter.specs.Mirror.{mirrored}
use Rattle.scatter.specs.Flags.{IndicesBelow}
use Rattle.pair_loops.specs.Additions.{Block, entries}
use Rattle.inductance.specs.Matrix.{summed_cell, cell, matrix}
use Rattle.scatter.specs.Change.{Changed}
use Rattle.inductance.proofs.Change.{renewed_by}
use Rattle.node_ring.proofs.Ring.{outside, ring-cells, ring-total}
use Rattle.node_ring.proofs.Overlay.{elsewhere}
use Rattle.node_move.specs.Move.{moved, ring, Done, MoveReady}

move_changes : (m : Mesh) (v : ℕ) (x y z : Float) → Changed (same v) m (moved m v x y z)
move_changes m v x y z = record { t0_same = refl; t1_same = refl; t2_same = refl; kept = λ a h. sym (elsewhere m v x y z a (eqb-false a v h)) }

-- the cells and the fresh matrix of another sum than the rounded one
abbrev pub cell_by : (List Float → Float) → Block → Mesh → ℕ → ℕ → Float
cell_by sum f m = mirrored (λ a b. sum (contributions (entries f m) a b))

abbrev pub matrix_by : (List Float → Float) → Block → Mesh → List Float
matrix_by sum f m = square (nnode m) (cell_by sum f m)

module _ (f : Block) (m : Mesh) (v : ℕ) (x y z : Float) where
  move_fresh_by : (sum : List Float → Float)
      → renewed (ring m (same v)) (cell_by sum f (moved m v x y z)) (nnode m) (matrix_by sum f m) ≡ matrix_by sum f (moved m v x y z)
  move_fresh_by sum =
      renewed_by f (same v) m (moved m v x y z) (move_changes m v x y z) sum (ring m (same v)) (outside m (same v)) (nnode m)
      ∙ ap (λ (n : ℕ). square n (cell_by sum f (moved m v x y z))) (sym (length-set m.xs v x))

  pub move_fresh : renewed (ring m (same v)) (cell f (moved m v x y z)) (nnode m) (matrix f m) ≡ matrix f (moved m v x y z)
  unfolding summed_cell cell matrix
  move_fresh = move_fresh_by cell_sum

-- ---- what the functions ask
pub ring_ready : (m : Mesh) (old : List Float) (v : ℕ) → MoveReady m old v → IndicesBelow max_nodes m
ring_ready m old v w i l =
    let b = w.none_missing i l in
    (lt_of_lt_of_le b.below0 w.small, (lt_of_lt_of_le b.below1 w.small, (lt_of_lt_of_le b.below2 w.small, tt)))

-- ---- from the marks to the ring
pub move_done : (cell_of : Mesh → ℕ → ℕ → Float) (m : Mesh) (v : ℕ) (x y z : Float) (old new : List Float) (marks : List Bool) (n r c k : ℕ)
    → ((a : ℕ) → marked marks a ≡ (marked (replicate k false) a || ring m (same v) a))
    → n ≡ nnode m
    → new ≡ renewed (marked marks) (cell_of (moved m v x y z)) n old
    → r ≡ count_below (marked marks) (nnode m)
    → c ≡ 2 * nnode m * r - r * r
    → Done cell_of m old v x y z c (moved m v x y z) new
move_done cell_of m v x y z old new marks n r c k e q w s t =
    let g = cell_of (moved m v x y z) in
    record {
      mesh = refl;
      cells = ring-cells (ring m (same v)) marks k e g (nnode m) old new (w ∙ ap (λ (j : ℕ). renewed (marked marks) g j old) q);
      total = ring-total (ring m (same v)) marks k e (nnode m) r c s t;
    }
