-- What the model's `sum` is, by how its two magnitudes compare: one rounding of their sum or of their difference.
use mathlib.Core.Path.{◌≡◌, refl, sym, ap, ◌∙◌}
use mathlib.Core.Bool.{Bool, true, false, not, ◌&&◌, cond, beq}
use Prim.Native.Nat.{ℕ, ◌+◌, ◌-◌, ◌<◌}
use native.Mathlib.Nat.{le_of_eq, le_of_lt, add_comm, sub_self}
use lib.Dec.{T, ltb, lt→ltb}
use lib.Arith.{le→nltb}
use lib.Ieee.{Format, round, sum, fits, is_nan}
use lib.Ieee.Fits.{round-fits, cond-fits}
use lib.Ieee.Bits.{is_true, is_false}
use Rattle.binary64.proofs.Signs.{round_number}

module _ (f : Format) (n k c : ℕ) where
  yes : {A : Type 0} (b : Bool) (x y : A) → T b → cond b x y ≡ x
  yes true x y t = refl
  yes false x y t = absurd t

  no : {A : Type 0} (b : Bool) (x y : A) → T (not b) → cond b x y ≡ y
  no true x y t = absurd t
  no false x y t = refl

  pub sum_less : (s t : Bool) → n < k → sum f s n t k c ≡ round f t (cond (beq s t) (k + n) (k - n)) c
  unfolding sum
  sum_less true true h = ap (λ (x : ℕ). round f true x c) (add_comm n k)
  sum_less true false h = yes (ltb n k) (round f false (k - n) c) (round f (true && ltb k n) (n - k) c) (lt→ltb n k h)
  sum_less false true h = yes (ltb n k) (round f true (k - n) c) (round f (false && ltb k n) (n - k) c) (lt→ltb n k h)
  sum_less false false h = ap (λ (x : ℕ). round f false x c) (add_comm n k)

  pub sum_alike : (s t : Bool) → beq s t ≡ true → sum f s n t k c ≡ round f s (cond (beq s t) (n + k) (n - k)) c
  unfolding sum
  sum_alike true true e = refl
  sum_alike true false e = absurd (mathlib.Core.Bool.false≢true e)
  sum_alike false true e = absurd (mathlib.Core.Bool.false≢true e)
  sum_alike false false e = refl

  pub sum_more : (s t : Bool) → beq s t ≡ false → k < n → sum f s n t k c ≡ round f s (cond (beq s t) (n + k) (n - k)) c
  unfolding sum
  sum_more true true e h = absurd (mathlib.Core.Bool.true≢false e)
  sum_more true false e h =
      no (ltb n k) (round f false (k - n) c) (round f (true && ltb k n) (n - k) c) (le→nltb n k (le_of_lt h))
      ∙ ap (λ (b : Bool). round f (true && b) (n - k) c) (is_true (ltb k n) (lt→ltb k n h))
  sum_more false true e h = no (ltb n k) (round f true (k - n) c) (round f (false && ltb k n) (n - k) c) (le→nltb n k (le_of_lt h))
  sum_more false false e h = absurd (mathlib.Core.Bool.true≢false e)

  pub sum-none : (s t : Bool) → beq s t ≡ false → n ≡ k → sum f s n t k c ≡ round f false 0 c
  unfolding sum
  sum-none s t e h =
      ap (λ (b : Bool). cond b (round f s (n + k) c) (cond (ltb n k) (round f t (k - n) c) (round f (s && ltb k n) (n - k) c))) e
      ∙ no (ltb n k) (round f t (k - n) c) (round f (s && ltb k n) (n - k) c) (le→nltb n k (le_of_eq (sym h)))
      ∙ ap (λ (b : Bool). round f (s && b) (n - k) c) (is_false (ltb k n) (le→nltb k n (le_of_eq h)))
      ∙ ap (λ (b : Bool). round f b (n - k) c) (nor s)
      ∙ ap (λ (x : ℕ). round f false x c) (ap (λ (x : ℕ). x - k) h ∙ sub_self k)
    where
      nor : (s : Bool) → (s && false) ≡ false
      nor true = refl
      nor false = refl

  pub sum_number : (s t : Bool) → T (not (is_nan (sum f s n t k c)))
  unfolding sum
  sum_number s t = go (beq s t) (ltb n k)
    where
      go : (b d : Bool) → T (not (is_nan (cond b (round f s (n + k) c) (cond d (round f t (k - n) c) (round f (s && ltb k n) (n - k) c)))))
      go true d = round_number f s (n + k) c
      go false true = round_number f t (k - n) c
      go false false = round_number f (s && ltb k n) (n - k) c

  pub sum_fits : (s t : Bool) → T (fits f (sum f s n t k c))
  unfolding sum
  sum_fits s t =
      cond-fits f (beq s t) (round f s (n + k) c) (cond (ltb n k) (round f t (k - n) c) (round f (s && ltb k n) (n - k) c)) (round-fits f s (n + k) c)
      (cond-fits f (ltb n k) (round f t (k - n) c) (round f (s && ltb k n) (n - k) c) (round-fits f t (k - n) c) (round-fits f (s && ltb k n) (n - k) c))
