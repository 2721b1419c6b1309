-- The law of `mantissa` and `exponent`: x = m × 2^e with 1 ≤ m < 2, exactly.
use mathlib.Core.Path.{◌≡◌, refl, sym, ap, ◌∙◌, subst}
use mathlib.Core.Bool.{Bool, ◌&&◌}
use Prim.Native.Nat.{ℕ, zero, suc, ◌+◌, ◌-◌, ◌*◌, ◌%◌, ◌^◌, ◌≤◌, ◌<◌}
use native.Mathlib.Nat.{le_trans, lt_of_lt_of_le, lt_of_not-le, not-le_of_lt, lt_irrefl, mul_assoc, mul_comm, pow-suc}
use native.Mathlib.Omega.{arith}
use lib.Dec.{T, ltb→lt, leb, ltb, eqb}
use lib.Pow.{pow-add, pow_pos, pow_mono, shl_lt}
use lib.IntN.{ℤ, pos, ◌+ℤ◌}
use lib.Ieee.{fin, binary64, up, down, size, fits}
use lib.Ieee.Fits.{and_l, and_r}
use lib.Ieee.Exact.{HasValue, round_exact}
use Rattle.elementary.specs.Elementary.{mantissa, exponent}
use Rattle.elementary.proofs.Parts.{leading}

-- n × 2^d, of the sign s: m is n / 2^k exactly, 1 ≤ n / 2^k < 2, and e is d + k
pub record Decomposed (s : Bool) (n : ℕ) (d : ℤ) : Type 0 where
  pub k : ℕ
  pub exact : HasValue (mantissa (fin s n d)) s n (2 ^ k)
  pub from_one : 2 ^ k ≤ n
  pub below_two : n < 2 * 2 ^ k
  pub exponent_is : exponent (fin s n d) ≡ d +ℤ pos k

digits_fit : (s : Bool) (n : ℕ) (d : ℤ) → 0 < n → T (fits binary64 (fin s n d)) → n < 2 ^ 53
unfolding fits
digits_fit s zero d p h = absurd (lt_irrefl 0 p)
digits_fit s (suc n) d p h =
    let a = eqb (suc n % 2) 1 in
    let b = ltb (suc n) (2 ^ 53) in
    let c = leb (down d) (2 ^ 1074) in
    let e = ltb (suc n * up d) (2 ^ 1024 * down d) in
    ltb→lt (suc n) (2 ^ 53) (and_r a b (and_l (a && b) c (and_l (a && b && c) e h)))

-- for k up to 1074
scaled : (n k l : ℕ) → k ≤ l → n * 2 ^ l ≡ n * 2 ^ (l - k) * 2 ^ k
scaled n k l h =
    let e : l ≡ l - k + k = omega arith in
    ap (λ (x : ℕ). n * 2 ^ x) e ∙ ap (λ (x : ℕ). n * x) (pow-add 2 (l - k) k) ∙ sym (mul_assoc n (2 ^ (l - k)) (2 ^ k))

pub decomposed : (s : Bool) (n : ℕ) (d : ℤ) → 0 < n → T (fits binary64 (fin s n d)) → Decomposed s n d
unfolding mantissa exponent
decomposed s n d p h =
    let j = size n - 1 in
    let l = leading n p in
    let small : n < 2 ^ 53 = digits_fit s n d p h in
    let low : j < 53 = lt_of_not-le (λ (g : 53 ≤ j). not-le_of_lt small (le_trans (pow_mono g) l.above)) in
    let room : 53 + (1074 - j) ≤ 1074 + 1024 = omega arith in
    let within : j ≤ 1074 = omega arith in
    record {
      k = j;
      exact = round_exact binary64 s n (2 ^ j) n (1074 - j) (pow_pos j) small (lt_of_lt_of_le (shl_lt 53 (1074 - j) small) (pow_mono room)) (scaled n j 1074 within);
      from_one = l.above;
      below_two = subst (λ (x : ℕ). n < x) (pow-suc 2 j ∙ mul_comm (2 ^ j) 2) l.below;
      exponent_is = refl;
    }
