-- Which cells a block's additions leave alone, and with marks, which blocks add nothing.
use mathlib.Core.Path.{◌≡◌, refl, ap, ap₂, ◌∙◌}
use mathlib.Core.Bool.{Bool, true, false, ◌&&◌, ◌||◌, and_comm}
use mathlib.Core.List.{List, [], ◌∷◌, ◌++◌}
use Prim.Native.Nat.{ℕ, suc, ◌+◌}
use lib.Dec.{eqb}
use lib.Ieee.{Float}
use Rattle.binary64.specs.Binary64.{at}
use Rattle.lists.specs.Counting.{any_of}
use Rattle.refusal.proofs.Tests.{or_off}
use Rattle.scatter.specs.Entries.{Entry, same, row_entries, block_entries, oriented, with_transposed, hits, keep, contributions}
use Rattle.scatter.specs.Renewal.{scatter, only, renewing}
use Rattle.scatter.proofs.Cells.{only-append}
use Rattle.scatter.proofs.Steps.{oriented-append}

-- ---- contributions
pub contributions-append : (es fs : List Entry) (a b : ℕ) → contributions (es ++ fs) a b ≡ contributions es a b ++ contributions fs a b
contributions-append [] fs a b = refl
contributions-append (e ∷ es) fs a b = go (hits e a b) (contributions-append es fs a b)
  where
    go : (t : Bool)
        → contributions (es ++ fs) a b ≡ contributions es a b ++ contributions fs a b
        → keep t e.value (contributions (es ++ fs) a b) ≡ keep t e.value (contributions es a b) ++ contributions fs a b
    go true ih = ap {B = List Float} (λ l. e.value ∷ l) ih
    go false ih = ih

-- a transposed addition hits (a, b) where the addition hits (b, a)
contributions_transposed : (es : List Entry) (a b : ℕ) → contributions (oriented true es) a b ≡ contributions es b a
unfolding oriented
contributions_transposed [] a b = refl
contributions_transposed (e ∷ es) a b = ap₂ (λ (t : Bool) (l : List Float). keep t e.value l) (and_comm (eqb e.col a) (eqb e.row b)) (contributions_transposed es a b)

row_misses : (x : ℕ) (t : List ℕ) (v : List Float) (k a b : ℕ) → eqb x a ≡ false → contributions (row_entries x t v k) a b ≡ []
unfolding row_entries
row_misses x [] v k a b h = refl
row_misses x (y ∷ t) v k a b h = rw h (row_misses x t v (suc k) a b h)

column_misses : (x : ℕ) (t : List ℕ) (v : List Float) (k a b : ℕ) → any_of (same b) t ≡ false → contributions (row_entries x t v k) a b ≡ []
unfolding row_entries any_of
column_misses x [] v k a b h = refl
column_misses x (y ∷ t) v k a b h = let w = or_off _ _ h in go (eqb x a) w.0 (column_misses x t v (suc k) a b w.1)
  where
    go : (u : Bool)
        → eqb y b ≡ false
        → contributions (row_entries x t v (suc k)) a b ≡ []
        → keep (u && eqb y b) (at v k) (contributions (row_entries x t v (suc k)) a b) ≡ []
    go true q ih = rw q ih
    go false q ih = ih

-- a block adds nothing to a row that is no source node, and nothing to a column that is no target node
pub source_misses : (s t : List ℕ) (v : List Float) (k a b : ℕ) → any_of (same a) s ≡ false → contributions (block_entries s t v k) a b ≡ []
unfolding block_entries any_of
source_misses [] t v k a b h = refl
source_misses (x ∷ s) t v k a b h =
    let w = or_off _ _ h in
    contributions-append (row_entries x t v k) (block_entries s t v (k + 3)) a b
    ∙ ap₂ (λ (l r : List Float). l ++ r) (row_misses x t v k a b w.0) (source_misses s t v (k + 3) a b w.1)

pub target_misses : (s t : List ℕ) (v : List Float) (k a b : ℕ) → any_of (same b) t ≡ false → contributions (block_entries s t v k) a b ≡ []
unfolding block_entries
target_misses [] t v k a b h = refl
target_misses (x ∷ s) t v k a b h =
    contributions-append (row_entries x t v k) (block_entries s t v (k + 3)) a b
    ∙ ap₂ (λ (l r : List Float). l ++ r) (column_misses x t v k a b h) (target_misses s t v (k + 3) a b h)

pub both_miss : (u : Bool) (es : List Entry) (a b : ℕ) → contributions es a b ≡ [] → contributions es b a ≡ [] → contributions (with_transposed u es) a b ≡ []
unfolding with_transposed
both_miss true es a b h g = h
both_miss false es a b h g = contributions-append es (oriented true es) a b ∙ ap₂ (λ (l r : List Float). l ++ r) h (contributions_transposed es a b ∙ g)

-- ---- with marks: a block whose nodes are not marked adds nothing, in either orientation
only_row : (r : ℕ → Bool) (u : Bool) (x : ℕ) (t : List ℕ) (v : List Float) (k : ℕ) → r x ≡ false → any_of r t ≡ false → only r (oriented u (row_entries x t v k)) ≡ []
unfolding row_entries any_of oriented
only_row r false x [] v k h g = refl
only_row r true x [] v k h g = refl
only_row r false x (y ∷ t) v k h g = let w = or_off (r y) (any_of r t) g in rw (h, w.0) (only_row r false x t v (suc k) h w.1)
only_row r true x (y ∷ t) v k h g = let w = or_off (r y) (any_of r t) g in rw (h, w.0) (only_row r true x t v (suc k) h w.1)

only_block : (r : ℕ → Bool) (u : Bool) (s t : List ℕ) (v : List Float) (k : ℕ) → any_of r s ≡ false → any_of r t ≡ false → only r (oriented u (block_entries s t v k)) ≡ []
unfolding block_entries any_of oriented
only_block r false [] t v k h g = refl
only_block r true [] t v k h g = refl
only_block r u (x ∷ s) t v k h g =
    let w = or_off _ _ h in
    ap (only r) (oriented-append u (row_entries x t v k) (block_entries s t v (k + 3)))
    ∙ only-append r (oriented u (row_entries x t v k)) (oriented u (block_entries s t v (k + 3)))
    ∙ ap₂ (λ (l m : List Entry). l ++ m) (only_row r u x t v k w.0 g) (only_block r u s t v (k + 3) w.1 g)

only_both : (r : ℕ → Bool) (u : Bool) (es : List Entry) → ((t : Bool) → only r (oriented t es) ≡ []) → only r (with_transposed u es) ≡ []
unfolding with_transposed oriented
only_both r true es h = h false
only_both r false es h = only-append r es (oriented true es) ∙ ap₂ (λ (l m : List Entry). l ++ m) (h false) (h true)

pub block_skipped : (r : ℕ → Bool) (n : ℕ) (u : Bool) (s t : List ℕ) (v : List Float) (out : List Float)
    → (any_of r s || any_of r t) ≡ false → renewing r n out (with_transposed u (block_entries s t v 0)) ≡ out
unfolding renewing scatter
block_skipped r n u s t v out h =
    let w = or_off _ _ h in
    ap (scatter n out) (only_both r u (block_entries s t v 0) (λ o. only_block r o s t v 0 w.0 w.1))
