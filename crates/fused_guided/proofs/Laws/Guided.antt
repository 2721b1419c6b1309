-- `guided_bits`: x * y + z by the sign and the exponent of a estimate t. The exact sum, shifted so that its leading digit is at `leading_place`, is rounded to a
-- significand; where the leading digit is not there, the estimate was wrong and there is no answer. Nothing is assumed of t.
use Rattle.std.proofs.Common.{◌≡◌, ℕ, Some, None, zero, suc, ◌+◌, ◌-◌, ◌*◌, ◌/◌, ◌%◌, ◌^◌, ◌<◌, ◌≤◌, Bool, true, false, cond, not, ◌&&◌, T, leb, sym, refl, ap, ◌∙◌, subst, inr, le_trans, le_of_eq, lt_of_lt_of_le, le-add_right, lt_of_le_of_lt, lt_irrefl, mul-le-mul_right, mod-lt, zero-lt-suc, mul_assoc, div-lt_iff_lt-mul, add-mul, lt_of_mul-lt-mul_right, mul-lt-mul_of_pos_right, lt_of_not-le, div-add-mod', le-div_iff_mul-le, zero-add, zero-mul, mul_right_comm, arith, pow_pos, pow_mono, pow-add}
use native.Mathlib.Nat.{div-eq_of_lt, min-eq_left}
use lib.Ieee.{Float, binary64, unlike, round, sum, units, fits, nan_bits, of_bits, to_bits}
use lib.Ieee.Nearest.{closest}
use Rattle.fused_integer.specs.Jam.{Jam}
use Rattle.binary64.specs.Pattern.{mag}
use Rattle.fused_guided.specs.Guided.{field, normal_significand, wrapped, signed_sum, SignedWords, leads, rounded_significand, significand, usable, guided, Found, central_from, central_to, leading_place, residual_top, word_bias}
use Rattle.binary64.specs.Operations.{fma}
use Rattle.binary64.proofs.Reading.{sign_of, abs_of, read_plain}
use Rattle.binary64.proofs.Values.{fma-values}
use Rattle.fused_integer.proofs.Laws.Cases.{sum_no_nan, sum-read}
use Rattle.fused_integer.proofs.Laws.Jam.{jam-exact}
use Rattle.fused_integer.proofs.Laws.Round.{round_jam}
use Rattle.binary64.proofs.Pack.{units-bits}
use Rattle.binary64.proofs.Whole.{closest_le, closest_ge}
use Rattle.binary64.proofs.Sums.{sum_alike, sum_more, sum_less}
use Rattle.fused_guided.proofs.Laws.Tests.{Factors, Reach, leads_no, leads_yes, leads-low, leads-high}
use Rattle.fused_guided.proofs.Laws.Terms.{place-some, place_few, place-units, unwrapped_k, field_lt, plain, significand_of_lem, product_units, product_lt, units_shift}
use Rattle.binary64.specs.Format.{infinity_bits, lowest, quantum_bias, top_field}
use Rattle.binary64.specs.Nearest.{den}

-- ---- the significand of the exact sum: its bits are those of the rounded value

bits-room : (e q : ℕ) → e < residual_top → q ≤ 2 ^ 53 → e * 2 ^ 52 + q ≤ infinity_bits
bits-room e q a b = omega arith

round_bits : (t : Bool) (x s b e sig : ℕ) → 2 ^ leading_place ≤ x * 2 ^ s → x * 2 ^ s < 2 ^ suc leading_place → sig ≡ closest (x * 2 ^ s) (2 ^ 64) → b + 64 ≡ s + lowest + e
    → e < residual_top
    → cond t (2 ^ 63) 0 + (e * 2 ^ 52 + sig) ≡ to_bits binary64 (round binary64 t (x * 2 ^ b) den)
round_bits t x s b e sig lo hi near E small =
    let w = x * 2 ^ s in
    let q = closest w (2 ^ 64) in
    let jam : Jam (x * 2 ^ b * 2 ^ s) (2 ^ b) w =
    subst (λ (v : ℕ). Jam v (2 ^ b) w) (sym (mul_right_comm x (2 ^ b) (2 ^ s))) (jam-exact w (2 ^ b) (pow_pos b)) in
    let most : q ≤ 2 ^ 53 = le_trans (closest_le w (2 ^ 64)) ((div-lt_iff_lt-mul (pow_pos 64)).1 hi) in
    let least : 2 ^ 52 ≤ q = le_trans ((le-div_iff_mul-le (pow_pos 64)).1 lo) (closest_ge w (2 ^ 64)) in
    let r : round binary64 t (x * 2 ^ b) den ≡ units binary64 t q e =
    round_jam binary64 t (x * 2 ^ b) s b w 64 (two_of 0) lo hi jam
    ∙ ap (λ (y : ℕ). units binary64 t (closest w (2 ^ (64 + y))) (b + 64 - (s + lowest))) (none b s e E)
    ∙ ap (λ (y : ℕ). units binary64 t q y) (place b s e E) in
    sym
    (ap (to_bits binary64) r
    ∙ units-bits binary64 t q e (inr least) most
    ∙ ap (λ (y : ℕ). cond t (2 ^ 63) 0 + y) (min-eq_left (bits-room e q small most) ∙ ap (λ (y : ℕ). e * 2 ^ 52 + y) (sym near)))
  where
    two_of : (x : ℕ) → 2 ≤ 64
    two_of x = omega arith

    none : (b s e : ℕ) → b + 64 ≡ s + lowest + e → s + lowest - (b + 64) ≡ 0
    none b s e h = omega arith

    place : (b s e : ℕ) → b + 64 ≡ s + lowest + e → b + 64 - (s + lowest) ≡ e
    place b s e h = omega arith

-- ---- the exact sum is `sum`'s

module _ (x p z b : ℕ) (some : 0 < x) where
  plus : x ≡ p + z → x * 2 ^ b ≡ p * 2 ^ b + z * 2 ^ b
  plus e = ap (λ (y : ℕ). y * 2 ^ b) e ∙ add-mul p z (2 ^ b)

  more : (p z : ℕ) → x + z ≡ p → (z * 2 ^ b < p * 2 ^ b) × (x * 2 ^ b ≡ p * 2 ^ b - z * 2 ^ b)
  more p z e = (
    mul-lt-mul_of_pos_right (less x p z some e) (pow_pos b),
    take (x * 2 ^ b) (z * 2 ^ b) (p * 2 ^ b)
        (sym (add-mul x z (2 ^ b)) ∙ ap (λ (y : ℕ). y * 2 ^ b) e),
  )
    where
      less : (x p z : ℕ) → 0 < x → x + z ≡ p → z < p
      less x p z h e = omega arith

      take : (x z p : ℕ) → x + z ≡ p → x ≡ p - z
      take x z p e = omega arith

  pub sum_is : (s u t : Bool) → x + (cond (unlike s t) p 0 + cond (unlike u t) z 0) ≡ cond (unlike s t) 0 p + cond (unlike u t) 0 z
      → round binary64 t (x * 2 ^ b) den ≡ sum binary64 s (p * 2 ^ b) u (z * 2 ^ b) den
  sum_is true true true e =
      ap (λ (y : ℕ). round binary64 true y den) (plus (at x p z e))
      ∙ sym (sum_alike binary64 (p * 2 ^ b) (z * 2 ^ b) den true true refl)
    where
      at : (x p z : ℕ) → x + (0 + 0) ≡ p + z → x ≡ p + z
      at x p z e = omega arith
  sum_is false false false e =
      ap (λ (y : ℕ). round binary64 false y den) (plus (at x p z e))
      ∙ sym (sum_alike binary64 (p * 2 ^ b) (z * 2 ^ b) den false false refl)
    where
      at : (x p z : ℕ) → x + (0 + 0) ≡ p + z → x ≡ p + z
      at x p z e = omega arith
  sum_is true true false e = absurd (no x p z some e)
    where
      no : (x p z : ℕ) → 0 < x → x + (p + z) ≡ 0 + 0 → ⊥
      no x p z h e = omega arith
  sum_is false false true e = absurd (no x p z some e)
    where
      no : (x p z : ℕ) → 0 < x → x + (p + z) ≡ 0 + 0 → ⊥
      no x p z h e = omega arith
  sum_is true false true e =
      let m = more p z (at x p z e) in ap (λ (y : ℕ). round binary64 true y den) m.1
      ∙ sym (sum_more binary64 (p * 2 ^ b) (z * 2 ^ b) den true false refl m.0)
    where
      at : (x p z : ℕ) → x + (0 + z) ≡ p + 0 → x + z ≡ p
      at x p z e = omega arith
  sum_is false true false e =
      let m = more p z (at x p z e) in ap (λ (y : ℕ). round binary64 false y den) m.1
      ∙ sym (sum_more binary64 (p * 2 ^ b) (z * 2 ^ b) den false true refl m.0)
    where
      at : (x p z : ℕ) → x + (0 + z) ≡ p + 0 → x + z ≡ p
      at x p z e = omega arith
  sum_is true false false e =
      let m = more z p (at x p z e) in ap (λ (y : ℕ). round binary64 false y den) m.1
      ∙ sym (sum_less binary64 (p * 2 ^ b) (z * 2 ^ b) den true false m.0)
    where
      at : (x p z : ℕ) → x + (p + 0) ≡ 0 + z → x + p ≡ z
      at x p z e = omega arith
  sum_is false true true e =
      let m = more z p (at x p z e) in ap (λ (y : ℕ). round binary64 true y den) m.1
      ∙ sym (sum_less binary64 (p * 2 ^ b) (z * 2 ^ b) den false true m.0)
    where
      at : (x p z : ℕ) → x + (p + 0) ≡ 0 + z → x + p ≡ z
      at x p z e = omega arith

-- ---- the law

-- the exact sum of the sign taken from the hardware's sum, and its significand
pub record Exact (cp : Bool) (p : ℕ) (cz : Bool) (z s sig : ℕ) : Type 0 where
  pub exact : ℕ
  pub total : exact + (cond cp p 0 + cond cz z 0) ≡ cond cp 0 p + cond cz 0 z
  pub lead : 2 ^ leading_place ≤ exact * 2 ^ s
  pub top : exact * 2 ^ s < 2 ^ suc leading_place
  pub near : sig ≡ closest (exact * 2 ^ s) (2 ^ 64)

-- what is not 0 is the sum itself
total_of : (cp cz : Bool) (p z : ℕ) → 0 < signed_sum cp p cz z → signed_sum cp p cz z + (cond cp p 0 + cond cz z 0) ≡ cond cp 0 p + cond cz 0 z
total_of false false p z h = omega arith
total_of false true p z h = omega arith
total_of true false p z h = omega arith
total_of true true p z h = absurd (none h)
  where
    none : 0 < 0 → ⊥
    none h = omega arith

above-none : (x s : ℕ) → 2 ^ leading_place ≤ x * 2 ^ s → 0 < x
above-none zero s h = absurd (none (0 * 2 ^ s) (zero-mul (2 ^ s)) h)
  where
    none : (y : ℕ) → y ≡ 0 → 2 ^ leading_place ≤ y → ⊥
    none y e h = omega arith
above-none (suc x) s h = zero-lt-suc x

pub exact_of : (cp cz : Bool) (p z s sig : ℕ) → leads (signed_sum cp p cz z) s ≡ true → sig ≡ rounded_significand (signed_sum cp p cz z) s → Exact cp p cz z s sig
unfolding rounded_significand
exact_of cp cz p z s sig l e =
    let x = signed_sum cp p cz z in
    record { exact = x; total = total_of cp cz p z (above-none x s (leads-low x s l)); lead = leads-low x s l; top = leads-high x s l; near = e }

guided_law : (s u t : Bool) (p z k b e sig : ℕ) → Exact (unlike s t) p (unlike u t) z k sig → b + 64 ≡ k + lowest + e → e < residual_top
    → cond t (2 ^ 63) 0 + (e * 2 ^ 52 + sig) ≡ to_bits binary64 (sum binary64 s (p * 2 ^ b) u (z * 2 ^ b) den)
guided_law s u t p z k b e sig g E small =
    round_bits t g.exact k b e sig g.lead g.top g.near E small
    ∙ ap (to_bits binary64) (sum_is g.exact p z b (above-none g.exact k g.lead) s u t g.total)

-- ---- what `guided_sum` computes

pub product_high : (u v hi lo : ℕ) → u < 2 ^ 53 → v < 2 ^ 53 → hi * 2 ^ 64 + lo ≡ u * v → hi < 2 ^ 42
product_high u v hi lo h k e = small hi lo (u * v) e (product_lt u v h k)
  where
    small : (hi lo p : ℕ) → hi * 2 ^ 64 + lo ≡ p → p < 2 ^ 106 → hi < 2 ^ 42
    small hi lo p e h = omega arith

pub shift_small : (w k hi lo : ℕ) → w < 2 ^ 53 → k < 64 → hi * 2 ^ 64 + lo ≡ w * 2 ^ k → hi < 2 ^ 62
shift_small w k hi lo W K e =
    small hi lo (w * 2 ^ k) e
    (lt_of_lt_of_le (mul-lt-mul_of_pos_right W (pow_pos k)) (le_trans (le_of_eq (sym (pow-add 2 53 k))) (pow_mono (room k K))))
  where
    room : (k : ℕ) → k < 64 → 53 + k ≤ 116
    room k h = omega arith

    small : (hi lo p : ℕ) → hi * 2 ^ 64 + lo ≡ p → p < 2 ^ leading_place → hi < 2 ^ 62
    small hi lo p e h = omega arith

pub below_pow : (a j : ℕ) → a / 2 ^ j ≡ 0 → a < 2 ^ j
below_pow a j e =
    subst (λ (y : ℕ). y < 2 ^ j) (ap (λ (y : ℕ). y * 2 ^ j + a % 2 ^ j) (sym e) ∙ div-add-mod' a (2 ^ j))
    (lt_of_le_of_lt (le_of_eq (ap (λ (y : ℕ). y + a % 2 ^ j) (zero-mul (2 ^ j)) ∙ zero-add (a % 2 ^ j))) (mod-lt a (pow_pos j)))

-- d is the sum's two words; p and z stand for its two terms
module _ (cp cz : Bool) (p z s dh dl : ℕ) (S : 1 ≤ s) (S' : s < 63) (D : SignedWords cp p cz z dh dl) where
  abbrev x : ℕ
  x = signed_sum cp p cz z

  room : (s : ℕ) → 1 ≤ s → 64 - s ≤ 63
  room s h = omega arith

  -- too large for the shift, or negative
  pub sum-high : (dh / 2 ^ (64 - s) ≡ 0 → ⊥) → leads x s ≡ false
  sum-high h = leads_no x s (λ lo hi. h (div-eq_of_lt (fits lo hi)))
    where
      some : 2 ^ leading_place ≤ x * 2 ^ s → dh < 2 ^ 63
      some lo = lt_of_not-le (λ (g : 2 ^ 63 ≤ dh). lt_irrefl 0 (subst (λ (y : ℕ). 0 < y) (D.minus g) (above-none x s lo)))

      wide : 2 ^ suc leading_place ≤ 2 ^ 128
      wide = pow_mono more
        where
          more : 117 ≤ 128
          more = omega arith

      word : 2 ^ (64 - s) * (2 ^ 64 * 2 ^ s) ≡ 2 ^ 128
      word =
          ap (λ (y : ℕ). 2 ^ (64 - s) * y) (sym (pow-add 2 64 s))
          ∙ sym (pow-add 2 (64 - s) (64 + s))
          ∙ ap (λ (y : ℕ). 2 ^ y) (both s S')
        where
          both : (s : ℕ) → s < 63 → 64 - s + (64 + s) ≡ 128
          both s h = omega arith

      fits : 2 ^ leading_place ≤ x * 2 ^ s → x * 2 ^ s < 2 ^ suc leading_place → dh < 2 ^ (64 - s)
      fits lo hi =
          lt_of_mul-lt-mul_right (2 ^ 64 * 2 ^ s)
          (lt_of_le_of_lt (le_of_eq (sym (mul_assoc dh (2 ^ 64) (2 ^ s))))
          (lt_of_le_of_lt (mul-le-mul_right (2 ^ s) (le_trans (le-add_right (dh * 2 ^ 64) dl) (le_of_eq (D.value (some lo)))))
          (lt_of_lt_of_le hi (le_trans wide (le_of_eq (sym word))))))

  sum-value : dh < 2 ^ (64 - s) → dh * 2 ^ 64 + dl ≡ x
  sum-value h = D.value (lt_of_lt_of_le h (pow_mono (room s S)))

  module _ (xh xl : ℕ) (fit : dh < 2 ^ (64 - s)) (X : xh * 2 ^ 64 + xl ≡ (dh * 2 ^ 64 + dl) * 2 ^ s) (L : xl < 2 ^ 64) where
    shifted : xh * 2 ^ 64 + xl ≡ x * 2 ^ s
    shifted = X ∙ ap (λ (y : ℕ). y * 2 ^ s) (sum-value fit)

    -- the leading digit is at another place
    pub sum_other : (xh / 2 ^ 52 ≡ 1 → ⊥) → leads x s ≡ false
    sum_other h =
        leads_no x s (λ lo hi. h (at xh xl (subst (λ (y : ℕ). 2 ^ leading_place ≤ y) (sym shifted) lo) (subst (λ (y : ℕ). y < 2 ^ suc leading_place) (sym shifted) hi) L))
      where
        at : (xh xl : ℕ) → 2 ^ leading_place ≤ xh * 2 ^ 64 + xl → xh * 2 ^ 64 + xl < 2 ^ suc leading_place → xl < 2 ^ 64 → xh / 2 ^ 52 ≡ 1
        at xh xl a b l = omega arith

    pub sum-leads : xh / 2 ^ 52 ≡ 1 → leads x s ≡ true
    sum-leads e = leads_yes x s (le_trans (least xh xl e) (le_of_eq shifted)) (lt_of_le_of_lt (le_of_eq (sym shifted)) (most xh xl e L))
      where
        least : (xh xl : ℕ) → xh / 2 ^ 52 ≡ 1 → 2 ^ leading_place ≤ xh * 2 ^ 64 + xl
        least xh xl e = omega arith

        most : (xh xl : ℕ) → xh / 2 ^ 52 ≡ 1 → xl < 2 ^ 64 → xh * 2 ^ 64 + xl < 2 ^ suc leading_place
        most xh xl e l = omega arith

    pub sum_near : (sig : ℕ) → sig ≡ closest (xh * 2 ^ 64 + xl) (2 ^ 64) → sig ≡ rounded_significand x s
    unfolding rounded_significand
    sum_near sig e = e ∙ ap (λ (y : ℕ). closest y (2 ^ 64)) shifted

-- its answer, both ways
pub no_significand : (x s : ℕ) → leads x s ≡ false → None ≡ significand x s
no_significand x s e = sym (ap (λ (b : Bool). cond b (Some (rounded_significand x s)) None) e)

pub a_significand : (x s sig : ℕ) → leads x s ≡ true → sig ≡ rounded_significand x s → Some sig ≡ significand x s
a_significand x s sig l e = ap Some e ∙ sym (ap (λ (b : Bool). cond b (Some (rounded_significand x s)) None) l)

pub none_leads : (x s : ℕ) → None ≡ significand x s → leads x s ≡ false
none_leads x s = go (leads x s)
  where
    go : (b : Bool) → None ≡ cond b (Some (rounded_significand x s)) None → b ≡ false
    go true e = cc
    go false e = refl

pub some_leads : (x s sig : ℕ) → Some sig ≡ significand x s → (leads x s ≡ true) × (sig ≡ rounded_significand x s)
some_leads x s sig = go (leads x s)
  where
    go : (b : Bool) → Some sig ≡ cond b (Some (rounded_significand x s)) None → (b ≡ true) × (sig ≡ rounded_significand x s)
    go true e = (refl, cc)
    go false e = (cc, cc)

-- ---- what `guided_bits` computes

unwrapped_s : (s ex ey et : ℕ) → s < 63 → et < 2048 → (s + (et + word_bias)) % 2 ^ 64 ≡ ex + ey → s + (et + word_bias) ≡ ex + ey
unwrapped_s s ex ey et S T e = omega arith

-- the estimate's exponent is no large one
estimate-small : (s ex ey et : ℕ) → s + (et + word_bias) ≡ ex + ey → Factors ex ey → et - 1 < residual_top
estimate-small s ex ey et e f = omega (arith, f.high_x, f.high_y)

pub bits_law : (nx ny nz nt np cp cz : Bool) (bx by bz ex ey ez et k s u v w sig r : ℕ)
    → ex ≡ bx % 2 ^ 63 / 2 ^ 52 → ey ≡ by % 2 ^ 63 / 2 ^ 52 → ez ≡ bz % 2 ^ 63 / 2 ^ 52 → et < 2048
    → (k + (ex + ey)) % 2 ^ 64 ≡ ez + quantum_bias → (s + (et + word_bias)) % 2 ^ 64 ≡ ex + ey → Reach 1 ex ey k s
    → u ≡ 2 ^ 52 + bx % 2 ^ 52 → v ≡ 2 ^ 52 + by % 2 ^ 52 → w ≡ 2 ^ 52 + bz % 2 ^ 52
    → nx ≡ leb (2 ^ 63) bx → ny ≡ leb (2 ^ 63) by → nz ≡ leb (2 ^ 63) bz → np ≡ unlike nx ny → cp ≡ unlike np nt → cz ≡ unlike nz nt
    → Exact cp (u * v) cz (w * 2 ^ k) s sig → r ≡ cond nt (2 ^ 63) 0 + ((et - 1) * 2 ^ 52 + sig) → Found bx by bz r
bits_law nx ny nz nt np cp cz bx by bz ex ey ez et k s u v w sig r X Y Z T K S ok U W' W NX NY NZ NP CP CZ g R =
    let k_is : k + (ex + ey) ≡ ez + quantum_bias = unwrapped_k k ex ey ez ok.near_z ok.factors.high_x ok.factors.high_y K in
    let s-is : s + (et + word_bias) ≡ ex + ey = unwrapped_s s ex ey et ok.near_t T S in
    let g' : Exact (unlike np nt) (u * v) (unlike nz nt) (w * 2 ^ k) s sig =
    subst (λ (c : Bool). Exact (unlike np nt) (u * v) c (w * 2 ^ k) s sig) CZ (subst (λ (c : Bool). Exact c (u * v) cz (w * 2 ^ k) s sig) CP g) in
    let b = ex + ey - 2 in
    let f = ok.factors in
    let p-is : u * v * 2 ^ b ≡ mag (bx % 2 ^ 63) * mag (by % 2 ^ 63) =
    sym (product_units u v ex ey (some ex f.low_x) (some ey f.low_y))
    ∙ ap (λ (x : ℕ). x * (v * 2 ^ (ey - 1))) (significand_of_lem bx ex u X (some ex f.low_x) U)
    ∙ ap (λ (x : ℕ). mag (bx % 2 ^ 63) * x) (significand_of_lem by ey v Y (some ey f.low_y) W') in
    let z-is : w * 2 ^ k * 2 ^ b ≡ mag (bz % 2 ^ 63) * 2 ^ lowest =
    units_shift w k b (ez - 1) lowest (sym (place-units k ex ey ez k_is f))
    ∙ ap (λ (x : ℕ). x * 2 ^ lowest) (significand_of_lem bz ez w Z (place-some k ex ey ez k_is f) W) in
    record {
      plain_x = plain (bx % 2 ^ 63) ex X (below ex f.high_x);
      plain_y = plain (by % 2 ^ 63) ey Y (below ey f.high_y);
      plain_z = plain (bz % 2 ^ 63) ez Z (place_few k ex ey ez k_is f ok.near_z);
      bits =
          R ∙ guided_law np nz nt (u * v) (w * 2 ^ k) s b (et - 1) sig g' (level s ex ey et s-is ok.near_t f.low_x f.low_y)
          (estimate-small s ex ey et s-is f)
          ∙ ap (λ (x : ℕ). to_bits binary64 (sum binary64 np x nz (w * 2 ^ k * 2 ^ b) den)) p-is
          ∙ ap (λ (x : ℕ). to_bits binary64 (sum binary64 np (mag (bx % 2 ^ 63) * mag (by % 2 ^ 63)) nz x den)) z-is
          ∙ ap (λ (c : Bool). to_bits binary64 (sum binary64 c (mag (bx % 2 ^ 63) * mag (by % 2 ^ 63)) nz (mag (bz % 2 ^ 63) * 2 ^ lowest)
          den)) (NP ∙ ap (λ (c : Bool). unlike c ny) NX ∙ ap (λ (c : Bool). unlike (leb (2 ^ 63) bx) c) NY)
          ∙ ap (λ (c : Bool). to_bits binary64 (sum binary64 (unlike (leb (2 ^ 63) bx) (leb (2 ^ 63) by)) (mag (bx % 2 ^ 63) * mag (by % 2 ^ 63)) c
          (mag (bz % 2 ^ 63) * 2 ^ lowest) den)) NZ;
    }
  where
    some : (x : ℕ) → central_from ≤ x → 1 ≤ x
    some x h = omega arith

    below : (x : ℕ) → x < central_to → x < top_field
    below x h = omega arith

    level : (s x y t : ℕ) → s + (t + word_bias) ≡ x + y → s < 63 → central_from ≤ x → central_from ≤ y → x + y - 2 + 64 ≡ s + lowest + (t - 1)
    level s x y t e l a b = omega arith

-- ---- when `guided_bits` answers: `guided` in the program's words

wrapped_is : (a b r : ℕ) → a < 2 ^ 64 → b < 2 ^ 64 → r < 2 ^ 64 → (r + b) % 2 ^ 64 ≡ a → wrapped a b ≡ r
wrapped_is a b r A B R e = omega arith

pub guided_is : (nx ny nz nt np cp cz : Bool) (bx by bz bt ex ey ez et k s u v w : ℕ)
    → ex ≡ field bx → ey ≡ field by → ez ≡ field bz → et ≡ field bt → k < 2 ^ 64 → s < 2 ^ 64
    → (k + (ex + ey)) % 2 ^ 64 ≡ ez + quantum_bias → (s + (et + word_bias)) % 2 ^ 64 ≡ ex + ey
    → u ≡ normal_significand bx → v ≡ normal_significand by → w ≡ normal_significand bz
    → nx ≡ leb (2 ^ 63) bx → ny ≡ leb (2 ^ 63) by → nz ≡ leb (2 ^ 63) bz → nt ≡ leb (2 ^ 63) bt → np ≡ unlike nx ny → cp ≡ unlike np nt → cz ≡ unlike nz nt
    → (usable ex ey k s && leads (signed_sum cp (u * v) cz (w * 2 ^ k)) s) ≡ guided bx by bz bt
unfolding guided
guided_is nx ny nz nt np cp cz bx by bz bt ex ey ez et k s u v w X Y Z T KB SB K S U V' W NX NY NZ NT NP CP CZ =
    let k_is : k ≡ wrapped (field bz + quantum_bias) (field bx + field by) =
    sym (wrapped_is (ez + quantum_bias) (ex + ey) k (few_z ez (field_lt bz ez Z)) (few_p ex ey (field_lt bx ex X) (field_lt by ey Y)) KB K)
    ∙ ap (λ (n : ℕ). wrapped (n + quantum_bias) (ex + ey)) Z ∙ ap (λ (n : ℕ). wrapped (field bz + quantum_bias) (n + ey)) X
    ∙ ap (λ (n : ℕ). wrapped (field bz + quantum_bias) (field bx + n)) Y in
    let s-is : s ≡ wrapped (field bx + field by) (field bt + word_bias) =
    sym (wrapped_is (ex + ey) (et + word_bias) s (few_p ex ey (field_lt bx ex X) (field_lt by ey Y)) (few_t et (field_lt bt et T)) SB S)
    ∙ ap (λ (n : ℕ). wrapped (ex + ey) (n + word_bias)) T ∙ ap (λ (n : ℕ). wrapped (n + ey) (field bt + word_bias)) X
    ∙ ap (λ (n : ℕ). wrapped (field bx + n) (field bt + word_bias)) Y in
    let np-is : np ≡ unlike (leb (2 ^ 63) bx) (leb (2 ^ 63) by) = NP ∙ ap (λ (b : Bool). unlike b ny) NX ∙ ap (λ (b : Bool). unlike (leb (2 ^ 63) bx) b) NY in
    rw (X, Y, k_is, s-is, U, V', W, CP, np-is, CZ, NZ, NT)
  where
    few_z : (e : ℕ) → e < 2048 → e + quantum_bias < 2 ^ 64
    few_z e h = omega arith

    few_t : (e : ℕ) → e < 2048 → e + word_bias < 2 ^ 64
    few_t e h = omega arith

    few_p : (e d : ℕ) → e < 2048 → d < 2048 → e + d < 2 ^ 64
    few_p e d h k = omega arith

-- where the tests fail
pub guided_no : (bx by bz bt ex ey ez et k s : ℕ) → ex ≡ field bx → ey ≡ field by → ez ≡ field bz → et ≡ field bt → k < 2 ^ 64 → s < 2 ^ 64
    → (k + (ex + ey)) % 2 ^ 64 ≡ ez + quantum_bias → (s + (et + word_bias)) % 2 ^ 64 ≡ ex + ey → usable ex ey k s ≡ false → guided bx by bz bt ≡ false
guided_no bx by bz bt ex ey ez et k s X Y Z T KB SB K S off =
    let np = unlike (leb (2 ^ 63) bx) (leb (2 ^ 63) by) in
    let nt = leb (2 ^ 63) bt in
    let cp = unlike np nt in
    let cz = unlike (leb (2 ^ 63) bz) nt in
    sym (guided_is (leb (2 ^ 63) bx) (leb (2 ^ 63) by) (leb (2 ^ 63) bz) nt np cp cz bx by bz bt ex ey ez et k s (normal_significand bx) (normal_significand by)
    (normal_significand bz) X Y Z T KB SB K S
    refl refl refl refl refl refl refl refl refl refl)
    ∙ ap (λ (b : Bool). b && leads (signed_sum cp (normal_significand bx * normal_significand by) cz (normal_significand bz * 2 ^ k)) s) off

-- the significand of an answer is the rounded one
pub sig_le : (x s sig : ℕ) → leads x s ≡ true → sig ≡ rounded_significand x s → sig ≤ 2 ^ 53
unfolding rounded_significand
sig_le x s sig l e = le_trans (le_of_eq e) (le_trans (closest_le (x * 2 ^ s) (2 ^ 64)) ((div-lt_iff_lt-mul (pow_pos 64)).1 (leads-high x s l)))

-- ---- what `guided` returns

pub found_number : (x y z : Float) (r : ℕ) → Found (to_bits binary64 x) (to_bits binary64 y) (to_bits binary64 z) r → T (not (nan_bits binary64 r))
found_number x y z r f = sum_no_nan (unlike (sign_of x) (sign_of y)) (sign_of z) (mag (abs_of x) * mag (abs_of y)) (mag (abs_of z) * 2 ^ lowest) r f.bits

pub found_fma : (x y z : Float) (r : ℕ) → T (fits binary64 x) → T (fits binary64 y) → T (fits binary64 z)
    → Found (to_bits binary64 x) (to_bits binary64 y) (to_bits binary64 z) r → of_bits binary64 r ≡ fma x y z
found_fma x y z r X Y Z f =
    sum-read (unlike (sign_of x) (sign_of y)) (sign_of z) (mag (abs_of x) * mag (abs_of y)) (mag (abs_of z) * 2 ^ lowest) r f.bits
    ∙ fma-values x y z (sign_of x) (sign_of y) (sign_of z) (mag (abs_of x)) (mag (abs_of y)) (mag (abs_of z)) (read_plain x X f.plain_x)
    (read_plain y Y f.plain_y) (read_plain z Z f.plain_z)

-- ---- small things

pub turn_yes : (b : Bool) (a : ℕ) → b ≡ true → 2 ^ 64 - 1 - a ≡ cond b (2 ^ 64 - 1 - a) a
turn_yes true a e = refl
turn_yes false a e = absurd (mathlib.Core.Bool.false≢true e)

module _ (ex ey k s et bt : ℕ) (ok : Reach 1 ex ey k s) (T : et ≡ bt % 2 ^ 63 / 2 ^ 52) (S : (s + (et + word_bias)) % 2 ^ 64 ≡ ex + ey) where
  exponent : s + (et + word_bias) ≡ ex + ey
  exponent = unwrapped_s s ex ey et ok.near_t (field_lt bt et T) S

  pub exponent-some : 1 ≤ et
  exponent-some = some s ex ey et exponent ok.near_t ok.factors.low_x ok.factors.low_y
    where
      some : (s x y t : ℕ) → s + (t + word_bias) ≡ x + y → s < 63 → central_from ≤ x → central_from ≤ y → 1 ≤ t
      some s x y t e l a b = omega arith

  pub exponent-room : (sig : ℕ) → sig ≤ 2 ^ 53 → (et - 1) * 2 ^ 52 + sig ≤ infinity_bits
  exponent-room sig h = bits-room (et - 1) sig (estimate-small s ex ey et exponent ok.factors) h
