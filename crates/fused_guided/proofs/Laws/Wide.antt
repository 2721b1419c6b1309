-- Numbers of two words: shifted up, and rounded to the upper word. What the bit operations of `shift_word`, `shift_more` and `near_word` give, as numbers.
use Rattle.std.proofs.Common.{◌≡◌, ℕ, zero, suc, ◌+◌, ◌-◌, ◌*◌, ◌/◌, ◌%◌, ◌^◌, ◌<◌, ◌≤◌, not, T, sym, refl, ap, ◌∙◌, subst, le_of_eq, lt_of_lt_of_le, add-zero, mod-lt, mod-eq_of_lt, add-mul, mul-lt-mul_of_pos_right, div-add-mod', mul_right_comm, arith, eqb→eq, leb→le, pow_pos, pow-add, shr_lt}
use Prim.Native.Nat.{compare, Ordering}
use native.Mathlib.Nat.{div-div-eq-div-mul, mul-div-mul_right}
use lib.Dec.{is_le, compare_is_eq, nleb→lt, eqb_refl}
use lib.Bits.{bit_or, or_shifted}
use lib.Ieee.{nearest}
use lib.Ieee.Nearest.{closest}

-- ---- two words shifted up

pub more_law : (hi lo s : ℕ) → lo < 2 ^ 64 → s < 64 → hi < 2 ^ (64 - s)
    → bit_or (hi * 2 ^ s % 2 ^ 64) (lo / 2 ^ (64 - s)) * 2 ^ 64 + lo * 2 ^ s % 2 ^ 64 ≡ (hi * 2 ^ 64 + lo) * 2 ^ s
more_law hi lo s L S H =
    let word : 2 ^ (64 - s) * 2 ^ s ≡ 2 ^ 64 = sym (pow-add 2 (64 - s) s) ∙ ap (λ (x : ℕ). 2 ^ x) (back s S) in
    let fit : hi * 2 ^ s < 2 ^ 64 = lt_of_lt_of_le (mul-lt-mul_of_pos_right H (pow_pos s)) (le_of_eq word) in
    let few : lo / 2 ^ (64 - s) < 2 ^ s = shr_lt s (64 - s) (subst (λ (x : ℕ). lo < 2 ^ x) (sym (forth s S)) L) in
    let part : lo * 2 ^ s / 2 ^ 64 ≡ lo / 2 ^ (64 - s) = ap (λ (x : ℕ). lo * 2 ^ s / x) (sym word) ∙ mul-div-mul_right lo (2 ^ (64 - s)) (pow_pos s) in
    ap (λ (x : ℕ). bit_or x (lo / 2 ^ (64 - s)) * 2 ^ 64 + lo * 2 ^ s % 2 ^ 64) (mod-eq_of_lt fit)
    ∙ ap (λ (x : ℕ). x * 2 ^ 64 + lo * 2 ^ s % 2 ^ 64) (or_shifted hi s (lo / 2 ^ (64 - s)) few)
    ∙ ap (λ (x : ℕ). (hi * 2 ^ s + x) * 2 ^ 64 + lo * 2 ^ s % 2 ^ 64) (sym part)
    ∙ gather (hi * 2 ^ s) (lo * 2 ^ s)
    ∙ ap (λ (x : ℕ). x + lo * 2 ^ s) (mul_right_comm hi (2 ^ s) (2 ^ 64))
    ∙ sym (add-mul (hi * 2 ^ 64) lo (2 ^ s))
  where
    back : (s : ℕ) → s < 64 → 64 - s + s ≡ 64
    back s h = omega arith

    forth : (s : ℕ) → s < 64 → s + (64 - s) ≡ 64
    forth s h = omega arith

    gather : (a b : ℕ) → (a + b / 2 ^ 64) * 2 ^ 64 + b % 2 ^ 64 ≡ a * 2 ^ 64 + b
    gather a b = omega arith

-- one word, in two steps, since s may be 0
pub word_law : (w s : ℕ) → s < 64 → w / 2 / 2 ^ (63 - s) * 2 ^ 64 + w * 2 ^ s % 2 ^ 64 ≡ w * 2 ^ s
word_law w s S = ap (λ (x : ℕ). x * 2 ^ 64 + w * 2 ^ s % 2 ^ 64) cut ∙ div-add-mod' (w * 2 ^ s) (2 ^ 64)
  where
    one_more : (s : ℕ) → s < 64 → 1 + (63 - s) ≡ 64 - s
    one_more s h = omega arith

    back : (s : ℕ) → s < 64 → 64 - s + s ≡ 64
    back s h = omega arith

    whole : 2 ^ (64 - s) * 2 ^ s ≡ 2 ^ 64
    whole = sym (pow-add 2 (64 - s) s) ∙ ap (λ (x : ℕ). 2 ^ x) (back s S)

    cut : w / 2 / 2 ^ (63 - s) ≡ w * 2 ^ s / 2 ^ 64
    cut =
        div-div-eq-div-mul w 2 (2 ^ (63 - s))
        ∙ ap (λ (x : ℕ). w / x) (sym (pow-add 2 1 (63 - s)) ∙ ap (λ (x : ℕ). 2 ^ x) (one_more s S))
        ∙ sym (mul-div-mul_right w (2 ^ (64 - s)) (pow_pos s))
        ∙ ap (λ (x : ℕ). w * 2 ^ s / x) whole

-- ---- the rounded word

pub near_law : (q r w : ℕ) → r < 2 ^ 64 → ((2 ^ 63 - q % 2 < r → w ≡ q + 1) × (r ≤ 2 ^ 63 - q % 2 → w ≡ q)) → w ≡ closest (q * 2 ^ 64 + r) (2 ^ 64)
near_law q r w R h =
    go (compare (r * 2) (2 ^ 64)) (leb→le (r * 2) (2 ^ 64)) (nleb→lt (r * 2) (2 ^ 64)) (eqb→eq (r * 2) (2 ^ 64))
    (λ (e : r * 2 ≡ 2 ^ 64). subst (λ (x : ℕ). T (compare_is_eq (compare (r * 2) x))) e (eqb_refl (r * 2)))
    ∙ ap (λ (x : ℕ). nearest x (compare (r * 2) (2 ^ 64))) (sym (lib.Pow.high q 64 R))
    ∙ ap (λ (x : ℕ). nearest ((q * 2 ^ 64 + r) / 2 ^ 64) (compare (x * 2) (2 ^ 64))) (sym (lib.Pow.low q 64 R))
  where
    under : (q r : ℕ) → r * 2 ≤ 2 ^ 64 → (r * 2 ≡ 2 ^ 64 → ⊥) → r ≤ 2 ^ 63 - q % 2
    under q r a b = omega arith

    over : (q r : ℕ) → 2 ^ 64 < r * 2 → 2 ^ 63 - q % 2 < r
    over q r a = omega arith

    even : (q r : ℕ) → r * 2 ≡ 2 ^ 64 → q % 2 ≡ 0 → r ≤ 2 ^ 63 - q % 2
    even q r a b = omega arith

    odd : (q r : ℕ) → r * 2 ≡ 2 ^ 64 → q % 2 ≡ 1 → 2 ^ 63 - q % 2 < r
    odd q r a b = omega arith

    one_more : (q : ℕ) → q + 1 ≡ suc q
    one_more q = omega arith

    tie : (b : ℕ) → q % 2 ≡ b → b < 2 → r * 2 ≡ 2 ^ 64 → w ≡ q + q % 2
    tie zero e l t = h.1 (even q r t e) ∙ sym (add-zero q) ∙ ap (λ (x : ℕ). q + x) (sym e)
    tie (suc zero) e l t = h.0 (odd q r t e) ∙ ap (λ (x : ℕ). q + x) (sym e)
    tie (suc (suc b)) e l t = absurd (no b l)
      where
        no : (b : ℕ) → suc (suc b) < 2 → ⊥
        no b l = omega arith

    go : (o : Ordering) → (T (is_le o) → r * 2 ≤ 2 ^ 64) → (T (not (is_le o)) → 2 ^ 64 < r * 2) → (T (compare_is_eq o) → r * 2 ≡ 2 ^ 64)
        → (r * 2 ≡ 2 ^ 64 → T (compare_is_eq o)) → w ≡ nearest q o
    go Ordering.lt a b c d = h.1 (under q r (a tt) d)
    go Ordering.eq a b c d = tie (q % 2) refl (mod-lt q (pow_pos 1)) (c tt)
    go Ordering.gt a b c d = h.0 (over q r (b tt)) ∙ one_more q
