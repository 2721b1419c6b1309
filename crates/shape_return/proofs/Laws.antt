-- The return on the definitions: nodes that do not differ are where they were, so that a cell outside the rings keeps its contributions and a fresh matrix, renewed, is the named shape's.
-- Two numbers of the format with the same canonical bits are one number; that lent numbers are of the format is known where a function is entered.
use mathlib.Core.Path.{◌≡◌, sym, ap, ◌∙◌}
use mathlib.Core.Logic.{◌↔◌}
use mathlib.Core.Bool.{Bool, true, false, ◌||◌}
use mathlib.Core.List.{List, [], ◌∷◌}
use Prim.Native.Nat.{ℕ, ◌*◌, ◌-◌, ◌≤◌}
use native.Mathlib.Nat.{le_refl, lt_of_lt_of_le}
use borrow.Author.Tests.{eqb-true, eq-eqb, not-false}
use lib.Dec.{T}
use lib.ListN.{length, replicate}
use lib.Ieee.{Float, binary64, fits}
use Rattle.binary64.specs.Binary64.{at}
use Rattle.ieee754.specs.Ieee754.{canonical_bits}
use Rattle.ieee754.proofs.Theorems.{canonical_only}
use Rattle.lists.specs.Counting.{count_below}
use Rattle.mesh.specs.Mesh.{Mesh, nnode, node}
use Rattle.refusal.proofs.Tests.{or_off}
use Rattle.scatter.specs.Entries.{cell_sum, square}
use Rattle.scatter.specs.Renewal.{marked, renewed}
use Rattle.scatter.specs.Flags.{IndicesBelow}
use Rattle.scatter.specs.Change.{Changed}
use Rattle.pair_loops.specs.Additions.{Block}
use Rattle.inductance.specs.Matrix.{summed_cell, cell, matrix}
use Rattle.inductance.proofs.Change.{renewed_by}
use Rattle.node_ring.specs.Ring.{MarksRing}
use Rattle.node_ring.proofs.Ring.{outside, ring_alike, ring-cells, ring-total}
use Rattle.shape_return.specs.Return.{Coordinates, same_number, differs, changed_ring, nodes_of, MarksDiffering, MarksChanged, ShapeOf, Done}

-- of such numbers those with the same canonical bits are one
pub same_number_lem : (x y : Float) → T (fits binary64 x) → T (fits binary64 y) → (same_number x y ≡ true) ↔ (x ≡ y)
same_number_lem x y hx hy =
    (λ e. canonical_only x y hx hy (eqb-true (canonical_bits x) (canonical_bits y) e), λ e. eq-eqb (canonical_bits x) (canonical_bits y) (ap canonical_bits e))

module _ (m m₁ : Mesh) (h : Coordinates m) (h₁ : Coordinates m₁) where
  kept : (a : ℕ) → differs m m₁ a ≡ false → node m₁ a ≡ node m a
  unfolding differs
  kept a e =
      let w = or_off _ _ e in
      let v = or_off _ _ w.1 in
      let x = (same_number_lem (at m.xs a) (at m₁.xs a) (h.0 a) (h₁.0 a)).0 (not-false _ w.0) in
      let y = (same_number_lem (at m.ys a) (at m₁.ys a) (h.1 a) (h₁.1 a)).0 (not-false _ v.0) in
      let z = (same_number_lem (at m.zs a) (at m₁.zs a) (h.2 a) (h₁.2 a)).0 (not-false _ v.1) in
      sym (λ i. x i ∷ y i ∷ z i ∷ [])

  pub return_changes : m₁.t0 ≡ m.t0 → m₁.t1 ≡ m.t1 → m₁.t2 ≡ m.t2 → Changed (differs m m₁) m m₁
  return_changes p q r = record { t0_same = p; t1_same = q; t2_same = r; kept = kept }

-- the present shape's fresh matrix, renewed, is the named shape's
pub return_fresh : (f : Block) (m m₁ : Mesh) → Changed (differs m m₁) m m₁ → nnode m₁ ≡ nnode m
    → renewed (changed_ring m m₁) (cell f m₁) (nnode m) (matrix f m) ≡ matrix f m₁
unfolding summed_cell cell matrix
return_fresh f m m₁ d e =
    renewed_by f (differs m m₁) m m₁ d cell_sum (changed_ring m m₁) (outside m (differs m m₁)) (nnode m) ∙ ap (λ (n : ℕ). square n (cell f m₁)) (sym e)

-- ---- what the functions ask
module _ (m m₁ : Mesh) (w : ShapeOf m₁ m) where
  pub indices_below : (k : ℕ) → nnode m ≤ k → IndicesBelow k m
  indices_below k l i b =
      let n = w.mesh.none_missing i b in
      (lt_of_lt_of_le n.below0 l, (lt_of_lt_of_le n.below1 l, (lt_of_lt_of_le n.below2 l, tt)))

  -- marks of the nodes that differ, and then of their rings
  pub rings_changed : (changed old new : List Bool)
      → MarksDiffering (nodes_of m.xs m.ys m.zs) (nodes_of m₁.xs m₁.ys m₁.zs) changed → MarksRing m (marked changed) old new → MarksChanged m m₁ old new
  unfolding differs
  rings_changed changed old new d e a =
      e a ∙ ap (λ (b : Bool). marked old a || b) (ring_alike m (nnode m) (marked changed) (differs m m₁) (indices_below (nnode m) (le_refl (nnode m))) d a)

  -- the mesh as written, m', is the shape
  module _ (m' : Mesh) (e : m' ≡ m₁) (old : List Float) (sized : length old ≡ nnode m * nnode m) (marks : List Bool) where
    pub restore_done : (cell_of : Mesh → ℕ → ℕ → Float) (new : List Float) (k t c : ℕ)
        → MarksChanged m m₁ (replicate k false) marks
        → new ≡ renewed (marked marks) (cell_of m') (nnode m') old
        → t ≡ count_below (marked marks) (nnode m)
        → c ≡ 2 * nnode m * t - t * t
        → Done cell_of m m₁ old c m' new
    restore_done cell_of new k t c r u s v =
        let there = ap (λ (m₂ : Mesh). renewed (marked marks) (cell_of m₂) (nnode m₂) old) e in
        record {
          mesh = e;
          cells = ring-cells (changed_ring m m₁) marks k r (cell_of m₁) (nnode m) old new (u ∙ there ∙ ap (λ (n : ℕ). renewed (marked marks) (cell_of m₁) n old) w.as_many);
          total = ring-total (changed_ring m m₁) marks k r (nnode m) t c s v;
        }
