-- Additions made in several calls: a list made after another is their concatenation, and one addition is made or not by the cell it goes to.
use mathlib.Core.Path.{◌≡◌, refl, sym, ap, ◌∙◌, subst}
use mathlib.Core.Bool.{Bool, true, false}
use mathlib.Core.List.{List, [], ◌∷◌, ◌++◌, map}
use Prim.Native.Nat.{ℕ, zero, suc, ◌+◌, ◌*◌, ◌/◌, ◌%◌, ◌<◌, ◌≤◌}
use native.Mathlib.Nat.{mul-le-mul, zero-mul, not-suc-le-zero, div-lt_iff_lt-mul, mod-lt}
use native.Mathlib.Omega.{arith}
use lib.Arith.{digits_lt}
use lib.ListN.{length}
use lib.Ieee.{Float}
use Rattle.mesh.specs.Mesh.{max_nodes}
use Rattle.scatter.specs.Entries.{Entry, entry, transpose, oriented, with_transposed}
use Rattle.scatter.specs.Renewal.{add_at, scatter, added, only, renewing, marked}
use Rattle.scatter.proofs.Cells.{only-append, scatter-append, length-scatter}

-- ---- where a cell stands
pub in_square : {n row col : ℕ} → n ≤ max_nodes → row < n → col < n → (row * n + col < n * n) × (n * n ≤ max_nodes * max_nodes)
in_square {n} s r c = (digits_lt r c, mul-le-mul s s)

some-node : {n k l : ℕ} → l ≡ n * n → k < l → 0 < n
some-node {n} {k} e h = pos_of n (subst (λ (x : ℕ). k < x) e h)
  where
    pos_of : (n : ℕ) → k < n * n → 0 < n
    pos_of zero h = absurd (not-suc-le-zero (subst (λ (x : ℕ). k < x) (zero-mul 0) h))
    pos_of (suc n) h = omega arith

pub row_small : {n k l : ℕ} → l ≡ n * n → k < l → k / n < n
row_small {n} {k} e h = (div-lt_iff_lt-mul (some-node e h)).1 (subst (λ (x : ℕ). k < x) e h)

pub column-small : {n k l : ℕ} → l ≡ n * n → k < l → k % n < n
column-small {n} {k} e h = mod-lt k (some-node e h)

-- ---- lists of additions
pub renewing-append : (r : ℕ → Bool) (n : ℕ) (m : List Float) (es fs : List Entry) → renewing r n m (es ++ fs) ≡ renewing r n (renewing r n m es) fs
unfolding renewing
renewing-append r n m es fs = ap (scatter n m) (only-append r es fs) ∙ scatter-append n (only r es) (only r fs) m

pub length-renewing : (r : ℕ → Bool) (n : ℕ) (m : List Float) (es : List Entry) → length (renewing r n m es) ≡ length m
unfolding renewing
length-renewing r n m es = length-scatter n (only r es) m

pub oriented-append : (t : Bool) (es fs : List Entry) → oriented t (es ++ fs) ≡ oriented t es ++ oriented t fs
unfolding oriented
oriented-append false es fs = refl
oriented-append true [] fs = refl
oriented-append true (e ∷ es) fs = ap {B = List Entry} (λ l. transpose e ∷ l) (oriented-append true es fs)

-- one addition: it is made, or not
module _ (marks : List Bool) (n : ℕ) (m : List Float) (row col : ℕ) (v : Float) where
  pub one_made : {new : List Float}
      → added (marked marks) row col ≡ true → new ≡ add_at n m (entry row col v) → new ≡ renewing (marked marks) n m (entry row col v ∷ [])
  unfolding scatter renewing
  one_made h e = rw h e

  pub none_made : added (marked marks) row col ≡ false → m ≡ renewing (marked marks) n m (entry row col v ∷ [])
  unfolding scatter renewing
  none_made h = rw h

-- three calls, one after the other, all in one orientation
pub three_steps : (r : ℕ → Bool) (n : ℕ) (t : Bool) (m : List Float) (es fs gs : List Entry) {m₁ m₂ m₃ : List Float}
    → m₁ ≡ renewing r n m (oriented t es)
    → m₂ ≡ renewing r n m₁ (oriented t fs)
    → m₃ ≡ renewing r n m₂ (oriented t gs)
    → m₃ ≡ renewing r n m (oriented t (es ++ (fs ++ gs)))
three_steps r n t m es fs gs {m₁} {m₂} p q s =
    s
    ∙ ap (λ (l : List Float). renewing r n l (oriented t gs)) q
    ∙ sym (renewing-append r n m₁ (oriented t fs) (oriented t gs))
    ∙ ap (λ (l : List Float). renewing r n l (oriented t fs ++ oriented t gs)) p
    ∙ sym (renewing-append r n m (oriented t es) (oriented t fs ++ oriented t gs))
    ∙ ap (λ (l : List Entry). renewing r n m l) (sym (oriented-append t es (fs ++ gs) ∙ ap (λ (l : List Entry). oriented t es ++ l) (oriented-append t fs gs)))

-- a block, then the same block transposed
pub both_added : (r : ℕ → Bool) (n : ℕ) (m : List Float) (es : List Entry) {m₁ m₂ : List Float}
    → m₁ ≡ renewing r n m (oriented false es) → m₂ ≡ renewing r n m₁ (oriented true es) → m₂ ≡ renewing r n m (with_transposed false es)
unfolding with_transposed oriented
both_added r n m es p q = q ∙ ap (λ (l : List Float). renewing r n l (map transpose es)) p ∙ sym (renewing-append r n m es (map transpose es))

pub one-added : (r : ℕ → Bool) (n : ℕ) (m : List Float) (es : List Entry) {new : List Float} → new ≡ renewing r n m (oriented false es) → new ≡ renewing r n m (with_transposed true es)
unfolding with_transposed oriented
one-added r n m es e = e
