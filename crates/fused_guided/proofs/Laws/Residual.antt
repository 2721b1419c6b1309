-- The rest as a float, a difference of two patterns of one exponent (`residual_value`), and a sum with a sticky bit below its last digits: rounding sees no
-- difference (`jam_round`).
use Rattle.std.proofs.Common.{◌≡◌, ℕ, zero, suc, ◌+◌, ◌-◌, ◌*◌, ◌/◌, ◌%◌, ◌^◌, ◌<◌, ◌≤◌, Bool, true, false, cond, not, T, leb, sym, refl, ap, ◌∙◌, subst, le_trans, lt_of_lt_of_le, add-mul, mul-lt-mul_of_pos_right, zero-mul, arith, le→leb, pow_pos, pow_mono, pow-add, shl_lt}
use borrow.Author.Tests.{lt-leb}
use lib.Arith.{le→nltb}
use lib.Ieee.{Float, binary64, size, round, sum, sub, nan_bits, of_fields, of_bits}
use lib.Ieee.Bits.{is_true, nan_bits_above}
use lib.Ieee.Digits.{size-lt, size_reaches}
use lib.Ieee.Exact.{HasValue, round_exact}
use Rattle.binary64.proofs.Pattern.{fields_value}
use Rattle.fused_integer.specs.Jam.{Jam}
use Rattle.fused_guided.specs.Guided.{Residual, residual_top}
use Rattle.fused_integer.proofs.Laws.Jam.{jam-exact, jam_scale}
use Rattle.fused_integer.proofs.Laws.Round.{round_jam}
use Rattle.binary64.proofs.Sums.{sum_less, sum_more, sum-none}
use Rattle.binary64.proofs.Values.{sub-values}
use Rattle.binary64.specs.Format.{lowest, top_field}
use Rattle.binary64.specs.Nearest.{den}

-- ---- the two floats that are taken from each other

pattern : (s : Bool) (e f : ℕ) → f < 2 ^ 52 → e < residual_top
    → of_bits binary64 (cond s (2 ^ 63) 0 + e * 2 ^ 52 + f) ≡ of_fields binary64 s e f
unfolding of_bits
pattern s e f F E =
    let b = cond s (2 ^ 63) 0 + e * 2 ^ 52 + f in
    ap (λ (t : Bool). of_fields binary64 t (b % 2 ^ 63 / 2 ^ 52) (b % 2 ^ 52)) (sign s e f F E)
    ∙ ap (λ (n : ℕ). of_fields binary64 s n (b % 2 ^ 52)) (high s e f F E)
    ∙ ap (λ (n : ℕ). of_fields binary64 s e n) (low s e f F)
  where
    above : (e f : ℕ) → 2 ^ 63 ≤ 2 ^ 63 + e * 2 ^ 52 + f
    above e f = omega arith

    below : (e f : ℕ) → f < 2 ^ 52 → e < residual_top → 0 + e * 2 ^ 52 + f < 2 ^ 63
    below e f F E = omega arith

    sign : (s : Bool) (e f : ℕ) → f < 2 ^ 52 → e < residual_top → leb (2 ^ 63) (cond s (2 ^ 63) 0 + e * 2 ^ 52 + f) ≡ s
    sign true e f F E = is_true (leb (2 ^ 63) (2 ^ 63 + e * 2 ^ 52 + f)) (le→leb (2 ^ 63) (2 ^ 63 + e * 2 ^ 52 + f) (above e f))
    sign false e f F E = lt-leb (2 ^ 63) (0 + e * 2 ^ 52 + f) (below e f F E)

    high : (s : Bool) (e f : ℕ) → f < 2 ^ 52 → e < residual_top → (cond s (2 ^ 63) 0 + e * 2 ^ 52 + f) % 2 ^ 63 / 2 ^ 52 ≡ e
    high true e f F E = omega arith
    high false e f F E = omega arith

    low : (s : Bool) (e f : ℕ) → f < 2 ^ 52 → (cond s (2 ^ 63) 0 + e * 2 ^ 52 + f) % 2 ^ 52 ≡ f
    low true e f F = omega arith
    low false e f F = omega arith

bits_val : (s : Bool) (p e f : ℕ) → p ≡ cond s (2 ^ 63) 0 + e * 2 ^ 52 → f < 2 ^ 52 → 1 ≤ e → e < residual_top
    → HasValue (of_bits binary64 (p + f)) s ((2 ^ 52 + f) * 2 ^ (e - 1)) (2 ^ lowest)
bits_val s p zero f P F some E = absurd (never some)
  where
    never : 1 ≤ 0 → ⊥
    never h = omega arith
bits_val s p (suc e) f P F some E =
    subst (λ (x : Float). HasValue x s ((2 ^ 52 + f) * 2 ^ (suc e - 1)) (2 ^ lowest))
    (sym (ap (λ (b : ℕ). of_bits binary64 (b + f)) P ∙ pattern s (suc e) f F E)) (fields_value s (suc e) f (room (suc e) E))
  where
    room : (e : ℕ) → e < residual_top → e < top_field
    room e h = omega arith

pub bits-word : (s : Bool) (p e f : ℕ) → p ≡ cond s (2 ^ 63) 0 + e * 2 ^ 52 → f < 2 ^ 52 → e < residual_top → p + f ≤ 2 ^ 64 - 1
bits-word true p e f P F h = omega arith
bits-word false p e f P F h = omega arith

pub bits-number : (s : Bool) (p e f : ℕ) → p ≡ cond s (2 ^ 63) 0 + e * 2 ^ 52 → f < 2 ^ 52 → e < residual_top → T (not (nan_bits binary64 (p + f)))
bits-number s p e f P F h =
    subst (λ (b : Bool). T (not b)) (sym (nan_bits_above binary64 (p + f))) (le→nltb 0x7ff0_0000_0000_0000 ((p + f) % 2 ^ 63) (under s p e f P F h))
  where
    under : (s : Bool) (p e f : ℕ) → p ≡ cond s (2 ^ 63) 0 + e * 2 ^ 52 → f < 2 ^ 52 → e < residual_top → (p + f) % 2 ^ 63 ≤ 0x7ff0_0000_0000_0000
    under true p e f P F h = omega arith
    under false p e f P F h = omega arith

exact_round : (s : Bool) (d e : ℕ) → d < 2 ^ 52 → e < residual_top → HasValue (round binary64 s (d * 2 ^ (e - 1)) (2 ^ lowest)) s (d * 2 ^ (e - 1)) (2 ^ lowest)
exact_round s d e D E =
    round_exact binary64 s (d * 2 ^ (e - 1)) (2 ^ lowest) d (e - 1) (pow_pos lowest) (wider d D)
    (lt_of_lt_of_le (shl_lt 52 (e - 1) D) (pow_mono (room e E))) refl
  where
    wider : (d : ℕ) → d < 2 ^ 52 → d < 2 ^ 53
    wider d h = omega arith

    room : (e : ℕ) → e < residual_top → 52 + (e - 1) ≤ 2098
    room e h = omega arith

-- a difference of two of one sign
less_sum : (s : Bool) (n k c : ℕ) → n < k → sum binary64 s n (not s) k c ≡ round binary64 (not s) (k - n) c
less_sum true n k c h = sum_less binary64 n k c true false h
less_sum false n k c h = sum_less binary64 n k c false true h

more_sum : (s : Bool) (n k c : ℕ) → k < n → sum binary64 s n (not s) k c ≡ round binary64 s (n - k) c
more_sum true n k c h = sum_more binary64 n k c true false refl h
more_sum false n k c h = sum_more binary64 n k c false true refl h

none-sum : (s : Bool) (n k c : ℕ) → n ≡ k → sum binary64 s n (not s) k c ≡ round binary64 false 0 c
none-sum true n k c h = sum-none binary64 n k c true false refl h
none-sum false n k c h = sum-none binary64 n k c false true refl h

pub residual_value : (s : Bool) (p f e : ℕ) → p ≡ cond s (2 ^ 63) 0 + e * 2 ^ 52 → f < 2 ^ 52 → 1 ≤ e → e < residual_top
    → Residual s (sub binary64 (of_bits binary64 (p + f)) (of_bits binary64 (p + 2 ^ 51))) f e
residual_value s p f e P F E h =
    let x = of_bits binary64 (p + f) in
    let y = of_bits binary64 (p + 2 ^ 51) in
    let u = 2 ^ (e - 1) in
    let a = (2 ^ 52 + f) * u in
    let b = (2 ^ 52 + 2 ^ 51) * u in
    let q : sub binary64 x y ≡ sum binary64 s a (not s) b (2 ^ lowest) =
    sub-values x y s s a b (2 ^ lowest) (pow_pos lowest) (bits_val s p e f P F E h) (bits_val s p e (2 ^ 51) P (half 0) E h) in
    record {
      plus = λ g. subst (λ (v : Float). HasValue v s ((f - 2 ^ 51) * u) (2 ^ lowest))
          (sym (q ∙ more_sum s a b (2 ^ lowest) (mul-lt-mul_of_pos_right (above f g) (pow_pos (e - 1)))
          ∙ ap (λ (n : ℕ). round binary64 s n (2 ^ lowest)) (gap (2 ^ 52 + f) (2 ^ 52 + 2 ^ 51) (f - 2 ^ 51) u (over f g))))
          (exact_round s (f - 2 ^ 51) e (small f F) h);
      none = λ g. subst (λ (v : Float). HasValue v false 0 (2 ^ lowest))
          (sym (q ∙ none-sum s a b (2 ^ lowest) (ap (λ (n : ℕ). (2 ^ 52 + n) * u) g)))
          (subst (λ (n : ℕ). HasValue (round binary64 false n (2 ^ lowest)) false n (2 ^ lowest)) (zero-mul u) (exact_round false 0 e (some 0) h));
      minus = λ g. subst (λ (v : Float). HasValue v (not s) ((2 ^ 51 - f) * u) (2 ^ lowest))
          (sym (q ∙ less_sum s a b (2 ^ lowest) (mul-lt-mul_of_pos_right (below f g) (pow_pos (e - 1)))
          ∙ ap (λ (n : ℕ). round binary64 (not s) n (2 ^ lowest)) (gap (2 ^ 52 + 2 ^ 51) (2 ^ 52 + f) (2 ^ 51 - f) u (under f g))))
          (exact_round (not s) (2 ^ 51 - f) e (small₂ f) h);
    }
  where
    half : (x : ℕ) → 2 ^ 51 < 2 ^ 52
    half x = omega arith

    some : (x : ℕ) → 0 < 2 ^ 52
    some x = omega arith

    above : (f : ℕ) → 2 ^ 51 < f → 2 ^ 52 + 2 ^ 51 < 2 ^ 52 + f
    above f h = omega arith

    below : (f : ℕ) → f < 2 ^ 51 → 2 ^ 52 + f < 2 ^ 52 + 2 ^ 51
    below f h = omega arith

    over : (f : ℕ) → 2 ^ 51 < f → 2 ^ 52 + f ≡ f - 2 ^ 51 + (2 ^ 52 + 2 ^ 51)
    over f h = omega arith

    under : (f : ℕ) → f < 2 ^ 51 → 2 ^ 52 + 2 ^ 51 ≡ 2 ^ 51 - f + (2 ^ 52 + f)
    under f h = omega arith

    small : (f : ℕ) → f < 2 ^ 52 → f - 2 ^ 51 < 2 ^ 52
    small f h = omega arith

    small₂ : (f : ℕ) → 2 ^ 51 - f < 2 ^ 52
    small₂ f = omega arith

    gap : (x y d u : ℕ) → x ≡ d + y → x * u - y * u ≡ d * u
    gap x y d u e = take (x * u) (y * u) (d * u) (ap (λ (k : ℕ). k * u) e ∙ add-mul d y u)
      where
        take : (x y d : ℕ) → x ≡ d + y → x - y ≡ d
        take x y d e = omega arith

-- ---- a sticky bit below the last digits changes nothing

pub jam_round : (s : Bool) (c x y b : ℕ) → 2 ^ 54 ≤ y → Jam x (2 ^ c) y
    → round binary64 s (x * 2 ^ b) den ≡ round binary64 s (y * 2 ^ c * 2 ^ b) den
jam_round s c x y b h j =
    let z = size y in
    let big : 55 ≤ z = least z (λ (g : z ≤ 54). native.Mathlib.Nat.lt_irrefl y (lt_of_lt_of_le (size-lt y) (le_trans (pow_mono g) h))) in
    let lo : 2 ^ (53 + (z - 53) - 1) ≤ y = size_reaches y (53 + (z - 53) - 1) (place z big) in
    let hi : y < 2 ^ (53 + (z - 53)) = subst (λ (k : ℕ). y < 2 ^ k) (sym (back z big)) (size-lt y) in
    let one : (v : ℕ) → Jam v (2 ^ c) y → Jam (v * 2 ^ b * 2 ^ 0) (2 ^ (c + b)) y = λ v k.
    subst (λ (q : ℕ). Jam q (2 ^ (c + b)) y) (sym (native.Mathlib.Nat.mul-one (v * 2 ^ b)))
    (subst (λ (q : ℕ). Jam (v * 2 ^ b) q y) (sym (pow-add 2 c b)) (jam_scale v (2 ^ c) y (2 ^ b) (pow_pos b) k)) in
    round_jam binary64 s (x * 2 ^ b) 0 (c + b) y (z - 53) (two z big) lo hi (one x j)
    ∙ sym (round_jam binary64 s (y * 2 ^ c * 2 ^ b) 0 (c + b) y (z - 53) (two z big) lo hi (one (y * 2 ^ c) (jam-exact y (2 ^ c) (pow_pos c))))
  where
    least : (z : ℕ) → (z ≤ 54 → ⊥) → 55 ≤ z
    least z h = omega arith

    place : (z : ℕ) → 55 ≤ z → 53 + (z - 53) - 1 < z
    place z h = omega arith

    back : (z : ℕ) → 55 ≤ z → 53 + (z - 53) ≡ z
    back z h = omega arith

    two : (z : ℕ) → 55 ≤ z → 2 ≤ z - 53
    two z h = omega arith
