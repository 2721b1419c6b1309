-- What the additions leave in each cell: what it held, plus the cell's contributions in order; and the matrix made of such cells.
use mathlib.Core.Path.{◌≡◌, refl, sym, ap, ◌∙◌}
use mathlib.Core.Bool.{Bool, true, false, ◌&&◌, cond, false≢true}
use mathlib.Core.List.{List, [], ◌∷◌, ◌++◌}
use Prim.Native.Nat.{ℕ, ◌+◌, ◌*◌, ◌/◌, ◌%◌, ◌<◌}
use native.Mathlib.Nat.{div-add-mod'}
use lib.ListN.{length, length-set}
use lib.Seq.{get_or-set_same, get_or-set_other, ext_get_or}
use lib.Dec.{eqb}
use lib.Arith.{digits_div, digits_mod}
use lib.Ieee.{Float, nan}
use borrow.Author.Tests.{eqb-true, eq-eqb}
use Rattle.binary64.specs.Binary64.{at}
use Rattle.lists.proofs.Filling.{tabulate-length, tabulate_at}
use Rattle.scatter.specs.Entries.{Entry, oriented, with_transposed, hits, keep, contributions, sum_from, square}
use Rattle.scatter.specs.Renewal.{named, renewed_cell, renewed, add_at, scatter, added, only, keep_entry, Within}

both_on : (a b : Bool) → (a && b) ≡ true → (a ≡ true) × (b ≡ true)
both_on true b e = (refl, e)
both_on false b e = absurd (false≢true e)

-- ---- one addition, and all of them
length-add_at : (n : ℕ) (m : List Float) (e : Entry) → length (add_at n m e) ≡ length m
length-add_at n m e = simp length-set

pub length-scatter : (n : ℕ) (es : List Entry) (m : List Float) → length (scatter n m es) ≡ length m
unfolding scatter
length-scatter n [] m = refl
length-scatter n (e ∷ es) m = length-scatter n es (add_at n m e) ∙ length-add_at n m e

pub scatter-append : (n : ℕ) (es fs : List Entry) (m : List Float) → scatter n m (es ++ fs) ≡ scatter n (scatter n m es) fs
unfolding scatter
scatter-append n [] fs m = refl
scatter-append n (e ∷ es) fs m = scatter-append n es fs (add_at n m e)

-- an addition's place in the list is k exactly if it hits the cell of k
hit_place : (n k : ℕ) (e : Entry) → hits e (k / n) (k % n) ≡ true → e.row * n + e.col ≡ k
hit_place n k e h =
    let w = both_on _ _ h in
    rw (eqb-true e.row (k / n) w.0, eqb-true e.col (k % n) w.1) (div-add-mod' k n)

place_hit : (n k : ℕ) (e : Entry) → e.col < n → e.row * n + e.col ≡ k → hits e (k / n) (k % n) ≡ true
place_hit n k e c h =
    let p : eqb e.row (k / n) ≡ true = eq-eqb e.row (k / n) (rw (← h) (sym (digits_div e.row c))) in
    let q : eqb e.col (k % n) ≡ true = eq-eqb e.col (k % n) (rw (← h) (sym (digits_mod e.row c))) in
    rw (p, q) refl

one-add : (n k : ℕ) (e : Entry) (m : List Float) (b : Bool)
    → e.col < n → k < length m → hits e (k / n) (k % n) ≡ b → at (add_at n m e) k ≡ sum_from (at m k) (keep b e.value [])
one-add n k e m true c l h = rw (hit_place n k e h) (get_or-set_same m k _ nan l)
one-add n k e m false c l h = get_or-set_other m (e.row * n + e.col) k _ nan (λ w. false≢true (sym h ∙ place_hit n k e c (sym w)))

sum-keep : (b : Bool) (x v : Float) (vs : List Float) → sum_from x (keep b v vs) ≡ sum_from (sum_from x (keep b v [])) vs
sum-keep true x v vs = refl
sum-keep false x v vs = refl

at_scatter : (n k : ℕ) (es : List Entry) (m : List Float)
    → Within n es → k < length m → at (scatter n m es) k ≡ sum_from (at m k) (contributions es (k / n) (k % n))
unfolding scatter
at_scatter n k [] m w l = refl
at_scatter n k (e ∷ es) m w l =
    at_scatter n k es (add_at n m e) w.2 (rw (length-add_at n m e) l)
    ∙ ap (λ (x : Float). sum_from x (contributions es (k / n) (k % n))) (one-add n k e m (hits e (k / n) (k % n)) w.1 l refl)
    ∙ sym (sum-keep (hits e (k / n) (k % n)) (at m k) e.value (contributions es (k / n) (k % n)))

-- ---- n × n cells
pub length-square : (n : ℕ) (g : ℕ → ℕ → Float) → length (square n g) ≡ n * n
unfolding square
length-square n g = tabulate-length (n * n) (λ k. g (k / n) (k % n))

pub at_square : (n : ℕ) (g : ℕ → ℕ → Float) (k : ℕ) → k < n * n → at (square n g) k ≡ g (k / n) (k % n)
unfolding square
at_square n g k l = tabulate_at (n * n) (λ k. g (k / n) (k % n)) k l

-- a list of n × n numbers is the square of its cells
pub square_ext : (n : ℕ) (g : ℕ → ℕ → Float) (m : List Float)
    → length m ≡ n * n → ((k : ℕ) → k < n * n → at m k ≡ g (k / n) (k % n)) → m ≡ square n g
square_ext n g m l h =
    ext_get_or nan m (square n g) (l ∙ sym (length-square n g)) (λ k b. let j : k < n * n = rw l at b in h k j ∙ sym (at_square n g k j))

pub length-renewed : (r : ℕ → Bool) (g : ℕ → ℕ → Float) (n : ℕ) (old : List Float) → length (renewed r g n old) ≡ n * n
unfolding renewed
length-renewed r g n old = length-square n _

pub at_renewed : (r : ℕ → Bool) (g : ℕ → ℕ → Float) (n : ℕ) (old : List Float) (k : ℕ)
    → k < n * n → at (renewed r g n old) k ≡ cond (named r (k / n) (k % n)) (g (k / n) (k % n)) (at old k)
unfolding renewed
at_renewed r g n old k h =
    at_square n (renewed_cell r g n old) k h
    ∙ ap (λ (j : ℕ). cond (named r (k / n) (k % n)) (g (k / n) (k % n)) (at old j)) (div-add-mod' k n)

-- ---- the additions that are made: all those of a named cell on or above the diagonal, none of another
missed : (t : Bool) (e : Entry) (es : List Entry) (a b : ℕ) → hits e a b ≡ false → contributions (keep_entry t e es) a b ≡ contributions es a b
missed true e es a b h = rw h
missed false e es a b h = refl

contributions-only : (r : ℕ → Bool) (es : List Entry) (a b : ℕ) → contributions (only r es) a b ≡ cond (added r a b) (contributions es a b) []
contributions-only r [] a b = go (added r a b)
  where
    go : (t : Bool) → ◌≡◌ {A = List Float} [] (cond t [] [])
    go true = refl
    go false = refl
contributions-only r (e ∷ es) a b = go (hits e a b) refl (contributions-only r es a b)
  where
    there : hits e a b ≡ true → added r e.row e.col ≡ added r a b
    there h = let w = both_on _ _ h in rw (eqb-true e.row a w.0, eqb-true e.col b w.1)

    hit : (t : Bool)
        → hits e a b ≡ true
        → contributions (only r es) a b ≡ cond t (contributions es a b) []
        → contributions (keep_entry t e (only r es)) a b ≡ cond t (e.value ∷ contributions es a b) []
    hit true h ih = rw (h, ih)
    hit false h ih = ih

    go : (t : Bool)
        → hits e a b ≡ t
        → contributions (only r es) a b ≡ cond (added r a b) (contributions es a b) []
        → contributions (keep_entry (added r e.row e.col) e (only r es)) a b ≡ cond (added r a b) (keep (hits e a b) e.value (contributions es a b)) []
    go true h ih = rw (there h, h) (hit (added r a b) h ih)
    go false h ih = missed (added r e.row e.col) e (only r es) a b h ∙ ih ∙ rw h

pub only-append : (r : ℕ → Bool) (es fs : List Entry) → only r (es ++ fs) ≡ only r es ++ only r fs
only-append r [] fs = refl
only-append r (e ∷ es) fs = go (added r e.row e.col) (only-append r es fs)
  where
    go : (t : Bool) → only r (es ++ fs) ≡ only r es ++ only r fs → keep_entry t e (only r (es ++ fs)) ≡ keep_entry t e (only r es) ++ only r fs
    go true ih = ap {B = List Entry} (λ l. e ∷ l) ih
    go false ih = ih

-- ---- additions within the matrix
pub within-append : (n : ℕ) (es fs : List Entry) → Within n es → Within n fs → Within n (es ++ fs)
within-append n [] fs w v = v
within-append n (e ∷ es) fs w v = (w.0, w.1, within-append n es fs w.2 v)

within_transposed : (n : ℕ) (es : List Entry) → Within n es → Within n (oriented true es)
unfolding oriented
within_transposed n [] w = tt
within_transposed n (e ∷ es) w = (w.1, w.0, within_transposed n es w.2)

pub within_both : (n : ℕ) (t : Bool) (es : List Entry) → Within n es → Within n (with_transposed t es)
unfolding with_transposed
within_both n true es w = w
within_both n false es w = within-append n es (oriented true es) w (within_transposed n es w)

within-only : (n : ℕ) (r : ℕ → Bool) (es : List Entry) → Within n es → Within n (only r es)
within-only n r [] w = tt
within-only n r (e ∷ es) w = go (added r e.row e.col) (within-only n r es w.2)
  where
    go : (t : Bool) → Within n (only r es) → Within n (keep_entry t e (only r es))
    go true ih = (w.0, w.1, ih)
    go false ih = ih

-- a cell after the additions that are made
pub at_added : (n : ℕ) (r : ℕ → Bool) (es : List Entry) (start : List Float) (k : ℕ)
    → Within n es
    → k < length start
    → at (scatter n start (only r es)) k ≡ sum_from (at start k) (cond (added r (k / n) (k % n)) (contributions es (k / n) (k % n)) [])
at_added n r es start k w l =
    at_scatter n k (only r es) start (within-only n r es w) l ∙ ap (sum_from (at start k)) (contributions-only r es (k / n) (k % n))
