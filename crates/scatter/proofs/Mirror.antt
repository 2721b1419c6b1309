-- Matrices whose cells below the diagonal are copies: mirrored cells are alike at (a, b) and (b, a), and a matrix in this form, renewed to such cells, stays in this form. Named cells cleared,
-- added to on and above the diagonal and copied below it are the renewed matrix of mirrored sums.
use mathlib.Core.Path.{◌≡◌, refl, sym, ap, ◌∙◌}
use mathlib.Core.Bool.{Bool, true, false, cond, or_comm}
use mathlib.Core.List.{List, []}
use Prim.Native.Nat.{ℕ, ◌+◌, ◌*◌, ◌/◌, ◌%◌, ◌<◌, ◌≤◌}
use native.Mathlib.Nat.{le_antisymm}
use native.Mathlib.Omega.{arith}
use borrow.Author.Tests.{leb-true, leb-false, le-leb}
use lib.Dec.{leb}
use lib.Arith.{digits_div, digits_mod, digits_lt}
use lib.Seq.{ext_get_or}
use lib.Ieee.{Float, nan}
use Rattle.binary64.specs.Binary64.{at, plus_zero}
use Rattle.scatter.specs.Entries.{Entry, contributions, sum_from, cell_sum, square}
use Rattle.scatter.specs.Renewal.{named, renewed_cell, renewed, scatter, added, only, renewing, Within}
use Rattle.scatter.specs.Mirror.{mirrored, Symmetric, cells_of, copied_below}
use Rattle.scatter.proofs.Cells.{at_square, length-renewed, at_renewed, at_added}
use Rattle.scatter.proofs.Steps.{row_small, column-small}

-- ---- mirrored cells
pub mirrored-turned : (g : ℕ → ℕ → Float) (a b : ℕ) → mirrored g a b ≡ mirrored g b a
mirrored-turned g a b = go (leb a b) (leb b a) refl refl
  where
    go : (t u : Bool) → leb a b ≡ t → leb b a ≡ u → cond t (g a b) (g b a) ≡ cond u (g b a) (g a b)
    go true true p q = let z : a ≡ b = le_antisymm (leb-true a b p) (leb-true b a q) in rw z
    go true false p q = refl
    go false true p q = refl
    go false false p q = absurd (omega (arith, leb-false a b p, leb-false b a q))

pub mirrored_alike : (g g' : ℕ → ℕ → Float) (a b : ℕ) → g' a b ≡ g a b → g' b a ≡ g b a → mirrored g' a b ≡ mirrored g a b
mirrored_alike g g' a b p q = go (leb a b)
  where
    go : (t : Bool) → cond t (g' a b) (g' b a) ≡ cond t (g a b) (g b a)
    go true = p
    go false = q

-- ---- matrices in this form
pub at_cell : (n : ℕ) (g : ℕ → ℕ → Float) (a b : ℕ) → a < n → b < n → at (square n g) (a * n + b) ≡ g a b
at_cell n g a b la lb = at_square n g (a * n + b) (digits_lt la lb) ∙ rw (digits_div a lb, digits_mod a lb)

pub square-symmetric : (n : ℕ) (g : ℕ → ℕ → Float) → ((a b : ℕ) → g a b ≡ g b a) → Symmetric n (square n g)
square-symmetric n g e a b la lb = at_cell n g b a lb la ∙ e b a ∙ sym (at_cell n g a b la lb)

pub renewed-symmetric : (r : ℕ → Bool) (g : ℕ → ℕ → Float) (n : ℕ) (old : List Float) → ((a b : ℕ) → g a b ≡ g b a) → Symmetric n old → Symmetric n (renewed r g n old)
unfolding renewed
renewed-symmetric r g n old e s a b la lb =
    let turned : renewed_cell r g n old b a ≡ renewed_cell r g n old a b = rw (or_comm (r b) (r a), e b a, s a b la lb) in
    at_cell n (renewed_cell r g n old) b a lb la ∙ turned ∙ sym (at_cell n (renewed_cell r g n old) a b la lb)

-- ---- cleared, added to and copied
module _ (r : ℕ → Bool) (n : ℕ) (es : List Entry) (old start : List Float) (w : Within n es) (cleared : start ≡ renewed r (λ a b. plus_zero) n old) where
  abbrev summed : List Float
  summed = renewing r n start es

  at_summed : (k : ℕ) → k < n * n → at summed k ≡ sum_from (cond (named r (k / n) (k % n)) plus_zero (at old k)) (cond (added r (k / n) (k % n)) (contributions es (k / n) (k % n)) [])
  unfolding renewing
  at_summed k h =
      let c = renewed r (λ a b. plus_zero) n old in
      ap (λ (l : List Float). at (scatter n l (only r es)) k) cleared
      ∙ at_added n r es c k w (rw (length-renewed r (λ a b. plus_zero) n old) h)
      ∙ ap (λ (x : Float). sum_from x (cond (added r (k / n) (k % n)) (contributions es (k / n) (k % n)) [])) (at_renewed r (λ a b. plus_zero) n old k h)

  -- a named cell on or above the diagonal is the sum of its contributions, a cell that is not named is as it was
  named_summed : (a b : ℕ) → a < n → b < n → named r a b ≡ true → a ≤ b → at summed (a * n + b) ≡ cell_sum (contributions es a b)
  unfolding cell_sum
  named_summed a b la lb t l = at_summed (a * n + b) (digits_lt la lb) ∙ rw (digits_div a lb, digits_mod a lb, t, le-leb a b l)

  other_summed : (k : ℕ) → k < n * n → named r (k / n) (k % n) ≡ false → at summed k ≡ at old k
  other_summed k h t = at_summed k h ∙ rw t

  pub renew_all : copied_below r n summed ≡ renewed r (mirrored (λ a b. cell_sum (contributions es a b))) n old
  renew_all =
      let f = mirrored (cells_of n summed) in
      let g = mirrored (λ a b. cell_sum (contributions es a b)) in
      ext_get_or nan (renewed r f n summed) (renewed r g n old) (length-renewed r f n summed ∙ sym (length-renewed r g n old))
      (λ k l. let h : k < n * n = rw (length-renewed r f n summed) at l in
      at_renewed r f n summed k h ∙ either k h (named r (k / n) (k % n)) refl ∙ sym (at_renewed r g n old k h))
    where
      both : (a b : ℕ) → a < n → b < n → named r a b ≡ true → (t : Bool) → leb a b ≡ t
          → cond t (at summed (a * n + b)) (at summed (b * n + a)) ≡ cond t (cell_sum (contributions es a b)) (cell_sum (contributions es b a))
      both a b la lb e true h = named_summed a b la lb e (leb-true a b h)
      both a b la lb e false h = named_summed b a lb la (or_comm (r b) (r a) ∙ e) (let c = leb-false a b h in omega (arith, c))

      either : (k : ℕ) → k < n * n → (t : Bool) → named r (k / n) (k % n) ≡ t
          → cond t (mirrored (cells_of n summed) (k / n) (k % n)) (at summed k) ≡ cond t (mirrored (λ a b. cell_sum (contributions es a b)) (k / n) (k % n)) (at old k)
      either k h true e = both (k / n) (k % n) (row_small refl h) (column-small refl h) e (leb (k / n) (k % n)) refl
      either k h false e = other_summed k h e
