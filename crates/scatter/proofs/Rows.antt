-- The loops over the named cells of a matrix, from the front, for any cells g that they leave there: a row's columns that are passed over keep their numbers, which have not been written yet,
-- and a row after the other fills the matrix. What the loop that clears and the loop that copies write is theirs.
use mathlib.Core.Path.{◌≡◌, refl, sym, ap, ap₂, ◌∙◌}
use mathlib.Core.Bool.{Bool, true, false, cond}
use mathlib.Core.List.{List}
use Prim.Native.Nat.{ℕ, zero, suc, ◌+◌, ◌-◌, ◌*◌, ◌/◌, ◌%◌, ◌<◌, ◌≤◌}
use native.Mathlib.Nat.{mul-le-mul, le_refl, suc-mul, zero-add}
use native.Mathlib.Numerals.{add-one}
use native.Mathlib.Omega.{arith}
use borrow.Author.Tests.{leb-false, le-leb, lt-leb}
use lib.Dec.{leb}
use lib.Arith.{digits_div, digits_mod, digits_lt}
use lib.ListN.{length, set}
use lib.Seq.{set-get_or}
use lib.Ieee.{Float, nan}
use Rattle.binary64.specs.Binary64.{at, plus_zero}
use Rattle.lists.specs.Counting.{next_from}
use Rattle.lists.specs.Filling.{filled, run}
use Rattle.lists.proofs.Filling.{column-long, column_end_lem, run_start, run-run, run_length, run_turn, run_next}
use Rattle.lists.proofs.First.{next_bounds, next_passes, next_keeps}
use Rattle.lists.proofs.Runs.{run-before, run-behind, run_inside}
use Rattle.lists.proofs.Stretches.{row_end}
use Rattle.scatter.specs.Entries.{square}
use Rattle.scatter.specs.Renewal.{named, renewed_cell, renewed}
use Rattle.scatter.specs.Mirror.{mirrored, cells_of}

rows_fit : (rows n : ℕ) → rows ≤ n → rows * n ≤ n * n
rows_fit rows n l = mul-le-mul l (le_refl n)

-- ---- a row
-- the first k columns of a row are done
abbrev Written : (ℕ → Bool) → (ℕ → ℕ → Float) → ℕ → List Float → ℕ → List Float → ℕ → Type 0
Written r g n held row now k = now ≡ run held (row * n) n (renewed_cell r g n held row) k

-- the scan of a row stands at col: a named column or the end, and those before it are done
pub record RowRenewed (r : ℕ → Bool) (g : ℕ → ℕ → Float) (n : ℕ) (held : List Float) (row : ℕ) (now : List Float) (col : ℕ) : Type 0 where
  pub room : row * n + n ≤ length held
  pub below : col ≤ n
  pub at_named : col < n → named r row col ≡ true
  pub long : length now ≡ length held
  pub written : Written r g n held row now col

module _ (r : ℕ → Bool) (g : ℕ → ℕ → Float) (n : ℕ) (held : List Float) (row : ℕ) where
  -- a column whose number stays
  passed_over : (k : ℕ) {now : List Float}
      → row * n + n ≤ length held → k < n → renewed_cell r g n held row k ≡ at held (row * n + k) → Written r g n held row now k → Written r g n held row now (suc k)
  passed_over k room l e w =
      let h = renewed_cell r g n held row in
      let p = run held (row * n) n h k in
      let stays : at p (row * n + k) ≡ h k = run-behind nan held (row * n) n h room k (row * n + k) (omega arith) (omega arith) ∙ sym e in
      w ∙ sym (set-get_or p (row * n + k) nan) ∙ run_turn held (row * n) n h k (at p (row * n + k)) room l stays ∙ ap (run held (row * n) n h) (add-one k)

  scan : (k : ℕ) {col : ℕ} {now : List Float}
      → row * n + n ≤ length held → k ≤ n → Written r g n held row now k → col ≡ next_from (named r row) k (n - k) → RowRenewed r g n held row now col
  scan k {col} {now} room l w e =
      let t = named r row in
      let b = next_bounds t k (n - k) in
      let there : Written r g n held row now col =
      rw e (next_keeps (Written r g n held row now) t k (n - k) (λ j a m f q. passed_over j room (omega (arith, a, m)) (rw f) q) w) in
      let low : col ≤ n = omega (arith, b.1, e, l) in
      record {
        room = room;
        below = low;
        at_named = λ m. rw e (next_passes t k (n - k) (omega (arith, m, e, l)));
        long = ap length there ∙ run_length held (row * n) n (renewed_cell r g n held row) col room low;
        written = there;
      }

module _ {r : ℕ → Bool} {g : ℕ → ℕ → Float} {n : ℕ} {held : List Float} {row : ℕ} where
  pub row_begun : {col : ℕ} → length held ≡ n * n → row < n → col ≡ next_from (named r row) 0 (n - 0) → RowRenewed r g n held row held col
  row_begun size here e = scan r g n held row 0 (rw size (row_end n n row here)) (omega arith) (run_start held (row * n) n (renewed_cell r g n held row)) e

  pub row_next : {col next : ℕ} {now new : List Float} {v : Float}
      → RowRenewed r g n held row now col
      → col < n
      → new ≡ set now (row * n + col) v
      → v ≡ renewed_cell r g n held row col
      → next ≡ next_from (named r row) (col + 1) (n - (col + 1))
      → RowRenewed r g n held row new next
  row_next {col} {next} {now} {new} {v} w l u e q =
      scan r g n held row (col + 1) w.room (omega arith) (run_next held now new (row * n) n (renewed_cell r g n held row) col v w.room l w.written u e) q

  -- where every number from col on stays, the row is done
  pub row_done : {col : ℕ} {now : List Float}
      → RowRenewed r g n held row now col → ((k : ℕ) → col ≤ k → k < n → renewed_cell r g n held row k ≡ at held (row * n + k)) → Written r g n held row now n
  row_done {col} {now} w e = go (n - col) col (omega (arith, w.below)) (omega arith) w.written
    where
      go : (c k : ℕ) → k + c ≡ n → col ≤ k → Written r g n held row now k → Written r g n held row now n
      go zero k z b v = let y : k ≡ n = omega arith in v ∙ ap (run held (row * n) n (renewed_cell r g n held row)) y
      go (suc c) k z b v = go c (suc k) (omega arith) (omega arith) (passed_over r g n held row k w.room (omega arith) (e k b (omega arith)) v)

-- ---- row after row
abbrev due_at : (ℕ → Bool) → (ℕ → ℕ → Float) → ℕ → List Float → ℕ → Float
due_at r g n held k = renewed_cell r g n held (k / n) (k % n)

-- the rows above `row` are done
pub record RowsRenewed (r : ℕ → Bool) (g : ℕ → ℕ → Float) (n : ℕ) (held : List Float) (row : ℕ) (now : List Float) : Type 0 where
  pub size : length held ≡ n * n
  pub below : row ≤ n
  pub long : length now ≡ length held
  pub written : now ≡ filled held (n * n) (due_at r g n held) (row * n)

module _ {r : ℕ → Bool} {g : ℕ → ℕ → Float} {n : ℕ} {held : List Float} where
  -- a row is done in the matrix as it stands, to numbers h that are due
  pub rows_turn : {row : ℕ} {now new : List Float} (h : ℕ → Float)
      → RowsRenewed r g n held row now
      → row < n
      → new ≡ run now (row * n) n h n
      → ((k : ℕ) → k < n → h k ≡ renewed_cell r g n held row k)
      → RowsRenewed r g n held (row + 1) new
  rows_turn {row} {now} {new} h w l e all =
      let q = due_at r g n held in
      let z : row * n + n ≡ (row + 1) * n = sym (suc-mul row n) ∙ ap (λ (i : ℕ). i * n) (sym (add-one row)) in
      let done : new ≡ filled held (n * n) q ((row + 1) * n) =
      e
      ∙ ap (λ (x : List Float). run x (row * n) n h n) w.written
      ∙ run-run held (n * n) q h (row * n) n (row_end n n row l) (λ k b. all k b ∙ rw (digits_div row b, digits_mod row b))
      ∙ ap (filled held (n * n) q) z in
      record {
        size = w.size;
        below = omega (arith, l);
        long = column-long held new (n * n) q ((row + 1) * n) w.size (rows_fit (row + 1) n (omega (arith, l))) done;
        written = done;
      }

  pub rows_done : {row : ℕ} {now : List Float} → RowsRenewed r g n held row now → n ≤ row → now ≡ renewed r g n held
  unfolding renewed square
  rows_done {row} {now} w l =
      let z : row ≡ n = omega (arith, w.below) in
      column_end_lem held now (n * n) (due_at r g n held) (row * n) w.size (ap (λ (i : ℕ). i * n) z) w.written

  -- a row that is not done yet is as it was
  pub row-held : {row : ℕ} {now : List Float} → RowsRenewed r g n held row now → row < n → (k : ℕ) → k < n → at now (row * n + k) ≡ at held (row * n + k)
  row-held {row} {now} w l k b =
      let room : 0 + n * n ≤ length held = omega (arith, w.size) in
      ap (λ (x : List Float). at x (row * n + k)) w.written
      ∙ run-behind nan held 0 (n * n) (due_at r g n held) room (row * n) (row * n + k) (omega (arith, row_end n n row l)) (omega arith)

  -- and one above it holds what is due
  pub row-due : {row : ℕ} {now : List Float} → RowsRenewed r g n held row now → (a b : ℕ) → a < row → b < n → at now (a * n + b) ≡ renewed_cell r g n held a b
  row-due {row} {now} w a b l c =
      let room : 0 + n * n ≤ length held = omega (arith, w.size) in
      ap (λ (x : List Float). at x (a * n + b)) w.written
      ∙ ap (at (filled held (n * n) (due_at r g n held) (row * n))) (sym (zero-add (a * n + b)))
      ∙ run_inside nan held 0 (n * n) (due_at r g n held) room (row * n) (a * n + b) (rows_fit row n w.below) (digits_lt l c)
      ∙ rw (digits_div a c, digits_mod a c)

-- ---- the loop that clears
pub clear_turn : {r : ℕ → Bool} {n : ℕ} {held : List Float} {row : ℕ} {now new : List Float}
    → RowsRenewed r (λ a b. plus_zero) n held row now
    → row < n
    → new ≡ run now (row * n) n (renewed_cell r (λ a b. plus_zero) n now row) n
    → RowsRenewed r (λ a b. plus_zero) n held (row + 1) new
clear_turn {r} {n} {held} {row} {now} w l e =
    rows_turn (renewed_cell r (λ a b. plus_zero) n now row) w l e (λ k b. ap (cond (named r row k) plus_zero) (row-held w l k b))

-- ---- the loop that copies
-- on and above the diagonal every number stays
pub copied_kept : (r : ℕ → Bool) (n : ℕ) (held : List Float) (a b : ℕ) → a ≤ b → renewed_cell r (mirrored (cells_of n held)) n held a b ≡ at held (a * n + b)
copied_kept r n held a b l = rw (le-leb a b l) (go (named r a b))
  where
    go : (t : Bool) → cond t (at held (a * n + b)) (at held (a * n + b)) ≡ at held (a * n + b)
    go true = refl
    go false = refl

-- a copy in the row: the cell above the diagonal stands in a row before it, which this one does not write
pub copy_due : {r : ℕ → Bool} {n : ℕ} {held : List Float} {row : ℕ} {now : List Float} {col : ℕ}
    → RowRenewed r (mirrored (cells_of n held)) n held row now col
    → row < n
    → col < row
    → at now (col * n + row) ≡ renewed_cell r (mirrored (cells_of n held)) n held row col
copy_due {r} {n} {held} {row} {now} {col} w here l =
    ap (λ (x : List Float). at x (col * n + row)) w.written
    ∙ run-before nan held (row * n) n (renewed_cell r (mirrored (cells_of n held)) n held row) w.room col (col * n + row) w.below (digits_lt l here)
    ∙ rw (w.at_named (omega (arith, l, here)), lt-leb row col l)

pub copy_turn : {r : ℕ → Bool} {n : ℕ} {held : List Float} {row : ℕ} {now new : List Float}
    → RowsRenewed r (mirrored (cells_of n held)) n held row now
    → row < n
    → new ≡ run now (row * n) n (renewed_cell r (mirrored (cells_of n now)) n now row) n
    → RowsRenewed r (mirrored (cells_of n held)) n held (row + 1) new
copy_turn {r} {n} {held} {row} {now} w l e = rows_turn (renewed_cell r (mirrored (cells_of n now)) n now row) w l e same
  where
    above : (k : ℕ) → k < n → (t : Bool) → leb row k ≡ t → cond t (at now (row * n + k)) (at now (k * n + row)) ≡ cond t (at held (row * n + k)) (at held (k * n + row))
    above k b true h = row-held w l k b
    above k b false h = let c = leb-false row k h in row-due w k row c l ∙ copied_kept r n held k row (omega (arith, c))

    same : (k : ℕ) → k < n → renewed_cell r (mirrored (cells_of n now)) n now row k ≡ renewed_cell r (mirrored (cells_of n held)) n held row k
    same k b = ap₂ (λ (x y : Float). cond (named r row k) x y) (above k b (leb row k) refl) (row-held w l k b)
