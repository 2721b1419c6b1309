-- The hardware's t = x * y + z as a candidate: t is within the rest's word of the exact sum (`close`), and the sum of t and the cut rest is the exact sum's
-- rounding (`residual_law`). The tests leave out a t below 2 ^ 67 of the product's last places, where much has cancelled, so the exact sum has t's sign.
use Rattle.std.proofs.Common.{◌≡◌, ℕ, ◌+◌, ◌-◌, ◌*◌, ◌/◌, ◌%◌, ◌^◌, ◌<◌, ◌≤◌, Bool, true, false, cond, T, sym, ap, ◌∙◌, subst, le_trans, le_of_eq, lt_of_lt_of_le, mul_assoc, mul-lt-mul_of_pos_right, arith, pow_pos, pow_mono, pow-add}
use lib.Ieee.{Float, binary64, unlike, add, mul, fits, to_bits}
use lib.Ieee.Fits.{add-fits}
use lib.Ieee.Exact.{HasValue}
use Rattle.binary64.specs.Nearest.{Near}
use Rattle.fused_integer.specs.Jam.{Jam}
use Rattle.fused_guided.specs.Guided.{Residual}
use Rattle.fused_multiply_add.specs.Residual.{Fits, added, taken, residual_bias, least_place, reach}
use Rattle.binary64.specs.Operations.{fma}
use Rattle.fused_integer.proofs.Laws.Jam.{jam-add}
use Rattle.binary64.proofs.Reading.{sign_of}
use Rattle.fused_guided.proofs.Laws.Tests.{Factors, Reach, reach_is}
use Rattle.fused_guided.proofs.Laws.Terms.{RestPlace, rest-place, Terms, terms, fma_terms, place-some, place_few, place-units, unwrapped_k, normal-value, significand_ge, significand-lt, units_shift, shift_ge, shift_even}
use Rattle.fused_guided.proofs.Laws.Guided.{sum_is}
use Rattle.fused_multiply_add.proofs.Laws.Error.{TwoRoundings, two_roundings, sum-plus, candidate_error}
use Rattle.fused_guided.proofs.Laws.Residual.{jam_round}
use Rattle.fused_multiply_add.proofs.Laws.Residual.{last_sum}
use Rattle.binary64.specs.Format.{lowest, quantum_bias}

pub place-word : (m : ℕ) → m < 63 → m < 64
place-word m h = omega arith

-- the place of the rest's cut, where the tests hold
pub cut_place : (ex ey k m : ℕ) {r : Bool} → r ≡ reach ex ey k m → r ≡ true → RestPlace residual_bias ex ey
cut_place ex ey k m R e =
    let ok = reach_is least_place ex ey k m R e in
    rest-place residual_bias ex ey (lib.Dec.lit≤ tt) (lib.Dec.lit< tt) ok.factors

-- ---- x, y, z and the candidate, by their patterns

module _ (x y z : Float) (FX : T (fits binary64 x)) (FY : T (fits binary64 y)) (FZ : T (fits binary64 z)) (ex ey ez et k m u v d c : ℕ)
    (EX : ex ≡ to_bits binary64 x % 2 ^ 63 / 2 ^ 52) (EY : ey ≡ to_bits binary64 y % 2 ^ 63 / 2 ^ 52) (EZ : ez ≡ to_bits binary64 z % 2 ^ 63 / 2 ^ 52)
    (ET : et ≡ to_bits binary64 (add binary64 (mul binary64 x y) z) % 2 ^ 63 / 2 ^ 52) (K : (k + (ex + ey)) % 2 ^ 64 ≡ ez + quantum_bias)
    (M : (m + (ex + ey)) % 2 ^ 64 ≡ et + quantum_bias) (ok : Reach least_place ex ey k m) (U : u ≡ 2 ^ 52 + to_bits binary64 x % 2 ^ 52)
    (V' : v ≡ 2 ^ 52 + to_bits binary64 y % 2 ^ 52) (D : d ≡ 2 ^ 52 + to_bits binary64 z % 2 ^ 52)
    (C : c ≡ 2 ^ 52 + to_bits binary64 (add binary64 (mul binary64 x y) z) % 2 ^ 52) where
  abbrev t : Float
  t = add binary64 (mul binary64 x y) z

  abbrev b : ℕ
  b = ex + ey - 2

  central : Factors ex ey
  central = ok.factors

  k_is : k + (ex + ey) ≡ ez + quantum_bias
  k_is = unwrapped_k k ex ey ez ok.near_z central.high_x central.high_y K

  m_is : m + (ex + ey) ≡ et + quantum_bias
  m_is = unwrapped_k m ex ey et (place-word m ok.near_t) central.high_x central.high_y M

  parts : Terms x y z ex ey ez k u v d
  parts = terms x y z FX FY FZ ex ey ez k u v d EX EY EZ central k_is (place_few k ex ey ez k_is central ok.near_z) U V' D

  t_some : 1 ≤ et
  t_some = place-some m ex ey et m_is central

  value_t : HasValue t (sign_of t) (c * 2 ^ (et - 1)) (2 ^ lowest)
  value_t = normal-value t et c (add-fits binary64 (mul binary64 x y) z) ET t_some (place_few m ex ey et m_is central (place-word m ok.near_t)) C

  -- in the units of the product's digits
  t_units : c * 2 ^ (et - 1) * 2 ^ lowest ≡ c * 2 ^ m * 2 ^ b
  t_units = units_shift c (et - 1) lowest m b (place-units m ex ey et m_is central)

  -- without a minus sign in the product and in z there is none in t
  pub t_plus : unlike (sign_of x) (sign_of y) ≡ false → sign_of z ≡ false → sign_of t ≡ false
  t_plus =
      sum-plus x y z (sign_of x) (sign_of y) (sign_of z) (sign_of t) (u * 2 ^ (ex - 1)) (v * 2 ^ (ey - 1)) (d * 2 ^ (ez - 1)) (c * 2 ^ (et - 1)) parts.value_x parts.value_y
      parts.value_z value_t

  -- t's sign, and where the product's and z's differ from it
  module _ (nt cp cz : Bool) (NT : nt ≡ sign_of t) (CP : cp ≡ unlike (unlike (sign_of x) (sign_of y)) nt) (CZ : cz ≡ unlike (sign_of z) nt) where
    value_nt : HasValue t nt (c * 2 ^ (et - 1)) (2 ^ lowest)
    value_nt = subst (λ (s : Bool). HasValue t s (c * 2 ^ (et - 1)) (2 ^ lowest)) (sym NT) value_t

    two : TwoRoundings cp (u * 2 ^ (ex - 1) * (v * 2 ^ (ey - 1))) cz (d * 2 ^ (ez - 1)) (c * 2 ^ (et - 1))
    two =
        let n = u * 2 ^ (ex - 1) * (v * 2 ^ (ey - 1)) in
        subst (λ (q : Bool). TwoRoundings q n cz (d * 2 ^ (ez - 1)) (c * 2 ^ (et - 1))) (sym CP)
        (subst (λ (q : Bool). TwoRoundings (unlike (unlike (sign_of x) (sign_of y)) nt) n q (d * 2 ^ (ez - 1)) (c * 2 ^ (et - 1))) (sym CZ)
        (two_roundings x y z (sign_of x) (sign_of y) (sign_of z) nt (u * 2 ^ (ex - 1)) (v * 2 ^ (ey - 1)) (d * 2 ^ (ez - 1)) (c * 2 ^ (et - 1)) parts.value_x
        parts.value_y parts.value_z value_nt))

    near : Near (taken cp (u * v) cz (d * 2 ^ k) (c * 2 ^ m)) (added cp (u * v) cz (d * 2 ^ k)) (2 ^ (m + 1) + 2 ^ 53)
    near =
        candidate_error cp cz (u * 2 ^ (ex - 1) * (v * 2 ^ (ey - 1))) (d * 2 ^ (ez - 1)) (c * 2 ^ (et - 1)) b et m (c * 2 ^ m) (u * v) (d * 2 ^ k) two
        (subst (λ (q : ℕ). q < 2 ^ (106 + b)) (sym parts.product) (lt_of_lt_of_le (mul-lt-mul_of_pos_right parts.small (pow_pos b)) (le_of_eq (sym (pow-add 2 106 b)))))
        (omega (arith, central.low_x, central.low_y))
        (lt_of_lt_of_le (mul-lt-mul_of_pos_right (significand-lt (to_bits binary64 t) c C) (pow_pos (et - 1)))
        (le_trans (le_of_eq (sym (pow-add 2 53 (et - 1)))) (pow_mono (last et t_some))))
        (omega (arith, m_is, central.low_x, central.low_y)) parts.product parts.addend t_units
      where
        last : (e : ℕ) → 1 ≤ e → 53 + (e - 1) ≤ 52 + e
        last e h = omega arith

    -- the rest fits one word
    pub close : Fits cp (u * v) cz (d * 2 ^ k) (c * 2 ^ m)
    close =
        let l = taken cp (u * v) cz (d * 2 ^ k) (c * 2 ^ m) in
        let r = added cp (u * v) cz (d * 2 ^ k) in
        let p = pow_mono (up m ok.near_t) in
        record { lower = under l r (2 ^ (m + 1)) near.0 p; upper = under r l (2 ^ (m + 1)) near.1 p }
      where
        up : (m : ℕ) → m < 63 → m + 1 ≤ 63
        up m h = omega arith

        under : (a y p : ℕ) → a * 2 ≤ y * 2 + (p + 2 ^ 53) → p ≤ 2 ^ 63 → a < y + 2 ^ 63
        under a y p h l = omega arith

    pub residual_law : (g f : ℕ) (r : Float) → g + taken cp (u * v) cz (d * 2 ^ k) (c * 2 ^ m) ≡ added cp (u * v) cz (d * 2 ^ k) + 2 ^ 63
        → Jam g 4096 f → Residual nt r f (ex + ey - residual_bias) → add binary64 t r ≡ fma x y z
    residual_law g f r G j rest =
        let h = c * 2 ^ (m - 12) in
        let q = h - 2 ^ 51 in
        let a = q * 4096 + g in
        let jam : Jam a 4096 (q + f) = jam-add q g 4096 f (even h half-even big) j in
        let total : a + (cond cp (u * v) 0 + cond cz (d * 2 ^ k) 0) ≡ added cp (u * v) cz (d * 2 ^ k) =
        exact h g (c * 2 ^ m) (cond cp (u * v) 0 + cond cz (d * 2 ^ k) 0) (added cp (u * v) cz (d * 2 ^ k)) wide big G in
        let np = unlike (sign_of x) (sign_of y) in
        last_sum t r nt (c * 2 ^ (et - 1)) f (ex + ey - residual_bias) (c * 2 ^ m) b ((q + f) * 4096) value_nt rest (omega (arith, central.low_x, central.low_y)) t_units
        (some_cut h f big) (whole h f (c * 2 ^ m) wide big)
        ∙ sym (jam_round nt 12 a (q + f) b (least h f big) jam)
        ∙ sum_is a (u * v) (d * 2 ^ k) b (some_size h g big) np (sign_of z) nt
        (subst (λ (s : Bool). a + (cond (unlike np nt) (u * v) 0 + cond s (d * 2 ^ k) 0) ≡ cond (unlike np nt) 0 (u * v) + cond s 0 (d * 2 ^ k)) CZ
        (subst (λ (s : Bool). a + (cond s (u * v) 0 + cond cz (d * 2 ^ k) 0) ≡ cond s 0 (u * v) + cond cz 0 (d * 2 ^ k)) CP total))
        ∙ fma_terms x y z ex ey ez k u v d parts
      where
        places₂ : (m : ℕ) → least_place ≤ m → m ≡ m - 12 + 12
        places₂ m h = omega arith

        wide : c * 2 ^ m ≡ c * 2 ^ (m - 12) * 4096
        wide = ap (λ (y : ℕ). c * 2 ^ y) (places₂ m ok.some) ∙ ap (λ (y : ℕ). c * y) (pow-add 2 (m - 12) 12) ∙ sym (mul_assoc c (2 ^ (m - 12)) 4096)

        big : 2 ^ 55 ≤ c * 2 ^ (m - 12)
        big = shift_ge c (m - 12) 55 (significand_ge (to_bits binary64 t) c C) (room m ok.some)
          where
            room : (m : ℕ) → least_place ≤ m → 55 ≤ 52 + (m - 12)
            room m h = omega arith

        half-even : c * 2 ^ (m - 12) % 2 ≡ 0
        half-even = shift_even c (m - 12) (one_place m ok.some)
          where
            one_place : (m : ℕ) → least_place ≤ m → 1 ≤ m - 12
            one_place m h = omega arith

        exact : (h g w n p : ℕ) → w ≡ h * 4096 → 2 ^ 55 ≤ h → g + (w + n) ≡ p + 2 ^ 63 → (h - 2 ^ 51) * 4096 + g + n ≡ p
        exact h g w n p e l s = omega arith

        even : (h : ℕ) → h % 2 ≡ 0 → 2 ^ 55 ≤ h → (h - 2 ^ 51) % 2 ≡ 0
        even h e l = omega arith

        whole : (h f w : ℕ) → w ≡ h * 4096 → 2 ^ 55 ≤ h → (h - 2 ^ 51 + f) * 4096 + 2 ^ 63 ≡ w + f * 4096
        whole h f w e l = omega arith

        least : (h f : ℕ) → 2 ^ 55 ≤ h → 2 ^ 54 ≤ h - 2 ^ 51 + f
        least h f l = omega arith

        some_cut : (h f : ℕ) → 2 ^ 55 ≤ h → 0 < (h - 2 ^ 51 + f) * 4096
        some_cut h f l = omega arith

        some_size : (h g : ℕ) → 2 ^ 55 ≤ h → 0 < (h - 2 ^ 51) * 4096 + g
        some_size h g l = omega arith
