-- The model's `sum` of ±a and ±b over c is the exact sum, rounded once (`RoundedOnce`), by cases on the signs and on which term is the larger.
use mathlib.Core.Path.{◌≡◌, refl}
use mathlib.Core.Bool.{Bool, true, false, not, cond, ◌&&◌, beq}
use Prim.Native.Nat.{ℕ, ◌+◌, ◌-◌, ◌≤◌, ◌<◌}
use native.Mathlib.Omega.{arith}
use lib.Dec.{T, ltb, ltb→lt, nltb→le}
use lib.Ieee.{Float, binary64, round, sum}
use Rattle.binary64.specs.Nearest.{RoundedOnce}

-- the two terms differ in sign: the first is negative, or the second
unlike_terms : (s t : Bool) (a b c : ℕ) → beq s t ≡ false
    → RoundedOnce (cond (ltb a b) (round binary64 t (b - a) c) (round binary64 (s && ltb b a) (a - b) c)) s a t b c
unlike_terms s t a b c differ = go s t (ltb a b) (ltb b a) differ (ltb→lt a b) (nltb→le a b) (ltb→lt b a) (nltb→le b a)
  where
    clash : (a b : ℕ) → a < b → b - a ≡ 0 → ⊥
    clash a b h e = omega arith

    up : (a b : ℕ) → a < b → b - a + (a + 0) ≡ 0 + (0 + b)
    up a b h = omega arith

    up_minus : (a b : ℕ) → a < b → 0 + (0 + b) ≡ b - a + (a + 0)
    up_minus a b h = omega arith

    down_minus : (a b : ℕ) → b ≤ a → 0 + (a + 0) ≡ a - b + (0 + b)
    down_minus a b h = omega arith

    down : (a b : ℕ) → b ≤ a → a - b + (0 + b) ≡ 0 + (a + 0)
    down a b h = omega arith

    level : (a b : ℕ) → b ≤ a → a ≤ b → a - b + (a + 0) ≡ 0 + (0 + b)
    level a b h k = omega arith

    go : (s t x y : Bool) → beq s t ≡ false → (T x → a < b) → (T (not x) → b ≤ a) → (T y → b < a) → (T (not y) → a ≤ b)
        → RoundedOnce (cond x (round binary64 t (b - a) c) (round binary64 (s && y) (a - b) c)) s a t b c
    go true true x y e f g h k = absurd (mathlib.Core.Bool.true≢false e)
    go false false x y e f g h k = absurd (mathlib.Core.Bool.true≢false e)
    go true false true y e f g h k = record { negative = false; size = b - a; exact = up a b (f tt); zero_sign = λ _. refl; rounded = refl }
    go true false false true e f g h k =
        record { negative = true; size = a - b; exact = down_minus a b (g tt); zero_sign = λ z. absurd (clash b a (h tt) z); rounded = refl }
    go true false false false e f g h k = record { negative = false; size = a - b; exact = level a b (g tt) (k tt); zero_sign = λ _. refl; rounded = refl }
    go false true true y e f g h k =
        record { negative = true; size = b - a; exact = up_minus a b (f tt); zero_sign = λ z. absurd (clash a b (f tt) z); rounded = refl }
    go false true false y e f g h k = record { negative = false; size = a - b; exact = down a b (g tt); zero_sign = λ _. refl; rounded = refl }

pub sum_once : (s t : Bool) (a b c : ℕ) → RoundedOnce (sum binary64 s a t b c) s a t b c
unfolding sum
sum_once true true a b c = record { negative = true; size = a + b; exact = swap (a + b); zero_sign = λ _. refl; rounded = refl }
  where
    swap : (x : ℕ) → 0 + x ≡ x + (0 + 0)
    swap x = omega arith
sum_once false false a b c = record { negative = false; size = a + b; exact = swap (a + b); zero_sign = λ _. refl; rounded = refl }
  where
    swap : (x : ℕ) → x + (0 + 0) ≡ 0 + x
    swap x = omega arith
sum_once true false a b c = unlike_terms true false a b c refl
sum_once false true a b c = unlike_terms false true a b c refl

-- a sum of two terms that are not negative has no minus sign
pub plus_terms : (r : Float) (a b c : ℕ) (o : RoundedOnce r false a false b c) → o.negative ≡ false
plus_terms r a b c o = go o.negative o.exact o.zero_sign
  where
    none : (v a b : ℕ) → 0 + (0 + 0) ≡ v + (a + b) → v ≡ 0
    none v a b e = omega arith

    go : (n : Bool) → cond n 0 o.size + (0 + 0) ≡ cond n o.size 0 + (a + b) → (o.size ≡ 0 → n ≡ false) → n ≡ false
    go true e z = z (none o.size a b e)
    go false e z = refl
