-- `unguided` where z is far above the product: with z's digits 64 places or more above the product's, the product cut at its place 55 with a sticky bit
-- stands for the product itself, since the sum's last kept digit is at least 8 places above the cut (`jam-add`, `jam-sub`, `jam_round`). So the hardware's
-- one rounding of z and the cut product is the rounding of the exact sum.
use Rattle.std.proofs.Common.{◌≡◌, ℕ, suc, ◌+◌, ◌-◌, ◌*◌, ◌/◌, ◌%◌, ◌^◌, ◌<◌, ◌≤◌, Bool, true, false, T, sym, refl, ap, ◌∙◌, subst, le_trans, lt_of_lt_of_le, lt_of_le_of_lt, le_of_lt, mul-le-mul_right, mul_assoc, add-mul, add_comm, mul-lt-mul_of_pos_right, arith, pow_pos, pow-add}
use lib.Ieee.{Float, binary64, unlike, round, sum, add, fits, to_bits}
use lib.Ieee.Exact.{HasValue}
use Rattle.fused_integer.specs.Jam.{Jam}
use Rattle.fused_guided.specs.Guided.{Residual, cut_bias}
use Rattle.binary64.specs.Operations.{fma}
use Rattle.fused_integer.proofs.Laws.Jam.{jam-add, jam-sub}
use Rattle.binary64.proofs.Values.{sub-mul, add-units}
use Rattle.binary64.proofs.Sums.{sum_alike, sum_less, sum_more}
use Rattle.binary64.proofs.Reading.{sign_of}
use Rattle.fused_guided.proofs.Laws.Terms.{Terms, terms, fma_terms, significand_ge, units_shift, shift_ge, shift_even}
use Rattle.fused_guided.proofs.Laws.Residual.{jam_round}
use Rattle.fused_guided.proofs.Laws.Tests.{Far}
use Rattle.binary64.specs.Format.{lowest, quantum_bias}
use Rattle.binary64.specs.Nearest.{den}

-- ---- the sum of z and the product, in units of 2 ^ b: a is z's digits above the cut, p the product and f what is left of it

module _ (a p f b : ℕ) (even : a % 2 ≡ 0) (big : 2 ^ 61 ≤ a) (small : f < 2 ^ 51) (less : p < 2 ^ 106) (j : Jam p (2 ^ 55) f) where
  p_below : p < a * 2 ^ 55
  p_below = lt_of_lt_of_le less (le_trans (lib.Dec.lit≤ tt) (mul-le-mul_right (2 ^ 55) big))

  f_below : f < a
  f_below = under f a small big
    where
      under : (f a : ℕ) → f < 2 ^ 51 → 2 ^ 61 ≤ a → f < a
      under f a h k = omega arith

  up_b : (x y : ℕ) → x < y → x * 2 ^ b < y * 2 ^ b
  up_b x y h = mul-lt-mul_of_pos_right h (pow_pos b)

  cut_below : f * 2 ^ 55 < a * 2 ^ 55
  cut_below = mul-lt-mul_of_pos_right f_below (pow_pos 55)

  alike : (s : Bool) → round binary64 s (p * 2 ^ b + a * 2 ^ 55 * 2 ^ b) den ≡ round binary64 s (a * 2 ^ 55 * 2 ^ b + f * 2 ^ 55 * 2 ^ b) den
  alike s =
      ap (λ (x : ℕ). round binary64 s x den) (add_comm (p * 2 ^ b) (a * 2 ^ 55 * 2 ^ b) ∙ sym (add-mul (a * 2 ^ 55) p (2 ^ b)))
      ∙ jam_round s 55 (a * 2 ^ 55 + p) (a + f) b (least a f big) (jam-add a p (2 ^ 55) f even j)
      ∙ ap (λ (x : ℕ). round binary64 s (x * 2 ^ b) den) (add-mul a f (2 ^ 55))
      ∙ ap (λ (x : ℕ). round binary64 s x den) (add-mul (a * 2 ^ 55) (f * 2 ^ 55) (2 ^ b))
    where
      least : (a f : ℕ) → 2 ^ 61 ≤ a → 2 ^ 54 ≤ a + f
      least a f h = omega arith

  differ : (s : Bool) → round binary64 s (a * 2 ^ 55 * 2 ^ b - p * 2 ^ b) den ≡ round binary64 s (a * 2 ^ 55 * 2 ^ b - f * 2 ^ 55 * 2 ^ b) den
  differ s =
      ap (λ (x : ℕ). round binary64 s x den) (sym (sub-mul (a * 2 ^ 55) p (2 ^ b)))
      ∙ jam_round s 55 (a * 2 ^ 55 - p) (a - f) b (least a f big small) (jam-sub a p (2 ^ 55) f even (le_of_lt f_below) (le_of_lt p_below) j)
      ∙ ap (λ (x : ℕ). round binary64 s (x * 2 ^ b) den) (sub-mul a f (2 ^ 55))
      ∙ ap (λ (x : ℕ). round binary64 s x den) (sub-mul (a * 2 ^ 55) (f * 2 ^ 55) (2 ^ b))
    where
      least : (a f : ℕ) → 2 ^ 61 ≤ a → f < 2 ^ 51 → 2 ^ 54 ≤ a - f
      least a f h k = omega arith

  -- n is the product's sign, u is z's
  far-sum : (n u : Bool) → sum binary64 n (p * 2 ^ b) u (a * 2 ^ 55 * 2 ^ b) den ≡ sum binary64 u (a * 2 ^ 55 * 2 ^ b) n (f * 2 ^ 55 * 2 ^ b) den
  far-sum n u = go n u
    where
      P : ℕ
      P = p * 2 ^ b

      A : ℕ
      A = a * 2 ^ 55 * 2 ^ b

      F : ℕ
      F = f * 2 ^ 55 * 2 ^ b

      go : (n u : Bool) → sum binary64 n (p * 2 ^ b) u (a * 2 ^ 55 * 2 ^ b) den ≡ sum binary64 u (a * 2 ^ 55 * 2 ^ b) n (f * 2 ^ 55 * 2 ^ b) den
      go true true = sum_alike binary64 P A den true true refl ∙ alike true ∙ sym (sum_alike binary64 A F den true true refl)
      go false false = sum_alike binary64 P A den false false refl ∙ alike false ∙ sym (sum_alike binary64 A F den false false refl)
      go true false =
          sum_less binary64 P A den true false (up_b p (a * 2 ^ 55) p_below)
          ∙ differ false
          ∙ sym (sum_more binary64 A F den false true refl (up_b (f * 2 ^ 55) (a * 2 ^ 55) cut_below))
      go false true =
          sum_less binary64 P A den false true (up_b p (a * 2 ^ 55) p_below)
          ∙ differ true
          ∙ sym (sum_more binary64 A F den true false refl (up_b (f * 2 ^ 55) (a * 2 ^ 55) cut_below))

-- ---- the law

module _ (x y z : Float) (FX : T (fits binary64 x)) (FY : T (fits binary64 y)) (FZ : T (fits binary64 z)) (ex ey ez u v : ℕ)
    (EX : ex ≡ to_bits binary64 x % 2 ^ 63 / 2 ^ 52) (EY : ey ≡ to_bits binary64 y % 2 ^ 63 / 2 ^ 52) (EZ : ez ≡ to_bits binary64 z % 2 ^ 63 / 2 ^ 52)
    (ok : Far ex ey ez) (U : u ≡ 2 ^ 52 + to_bits binary64 x % 2 ^ 52) (Y : v ≡ 2 ^ 52 + to_bits binary64 y % 2 ^ 52) where
  abbrev b : ℕ
  b = ex + ey - 2

  -- z's digits, and their place above the cut
  abbrev w : ℕ
  w = 2 ^ 52 + to_bits binary64 z % 2 ^ 52

  abbrev i : ℕ
  i = ez + cut_bias - (ex + ey)

  over : i + 55 + (ex + ey) ≡ ez + quantum_bias
  over = omega (arith, ok.above)

  parts : Terms x y z ex ey ez (i + 55) u v w
  parts = terms x y z FX FY FZ ex ey ez (i + 55) u v w EX EY EZ ok.factors over ok.finite_z U Y refl

  above_cut : w * 2 ^ (i + 55) ≡ w * 2 ^ i * 2 ^ 55
  above_cut = ap (λ (q : ℕ). w * q) (pow-add 2 i 55) ∙ sym (mul_assoc w (2 ^ i) (2 ^ 55))

  cut_units : (f : ℕ) → f * 2 ^ (ex + ey - cut_bias - 1) * 2 ^ lowest ≡ f * 2 ^ 55 * 2 ^ b
  cut_units f = units_shift f (ex + ey - cut_bias - 1) lowest 55 b (omega (arith, ok.factors.low_x, ok.factors.low_y))

  z_even : w * 2 ^ i % 2 ≡ 0
  z_even = shift_even w i (omega (arith, ok.above))

  z_big : 2 ^ 61 ≤ w * 2 ^ i
  z_big = shift_ge w i 61 (significand_ge (to_bits binary64 z) w refl) (omega (arith, ok.above))

  -- the product has digits above the cut
  cut_some : (f : ℕ) → Jam (u * v) (2 ^ 55) f → 0 < f
  cut_some f j =
      go f (lt_of_le_of_lt (least v (significand_ge (to_bits binary64 y) v Y)) (lt_of_le_of_lt (mul-le-mul_right v (significand_ge (to_bits binary64 x) u U)) j.above))
    where
      least : (v : ℕ) → 2 ^ 52 ≤ v → 2 ^ 104 ≤ 2 ^ 52 * v
      least v h = omega arith

      go : (f : ℕ) → 2 ^ 104 < suc f * 2 ^ 55 → 0 < f
      go f h = omega arith

  pub far_law : (n : Bool) (f : ℕ) (d : Float) → n ≡ unlike (sign_of x) (sign_of y) → Jam (u * v) (2 ^ 55) f → f < 2 ^ 51
      → Residual n d (2 ^ 51 + f) (ex + ey - cut_bias) → add binary64 z d ≡ fma x y z
  far_law n f d N j F rest =
      let value-d : HasValue d n (f * 2 ^ (ex + ey - cut_bias - 1)) (2 ^ lowest) =
      subst (λ (q : ℕ). HasValue d n (q * 2 ^ (ex + ey - cut_bias - 1)) (2 ^ lowest)) (size f) (rest.plus (above f (cut_some f j))) in
      add-units z d (sign_of z) n (w * 2 ^ (ez - 1)) (f * 2 ^ (ex + ey - cut_bias - 1)) (w * 2 ^ i * 2 ^ 55 * 2 ^ b) (f * 2 ^ 55 * 2 ^ b) parts.value_z value-d
      (parts.addend ∙ ap (λ (q : ℕ). q * 2 ^ b) above_cut) (cut_units f)
      ∙ sym (far-sum (w * 2 ^ i) (u * v) f b z_even z_big F parts.small j n (sign_of z))
      ∙ ap (λ (q : ℕ). sum binary64 n (u * v * 2 ^ b) (sign_of z) (q * 2 ^ b) den) (sym above_cut)
      ∙ ap (λ (q : Bool). sum binary64 q (u * v * 2 ^ b) (sign_of z) (w * 2 ^ (i + 55) * 2 ^ b) den) N
      ∙ fma_terms x y z ex ey ez (i + 55) u v w parts
    where
      above : (f : ℕ) → 0 < f → 2 ^ 51 < 2 ^ 51 + f
      above f h = omega arith

      size : (f : ℕ) → 2 ^ 51 + f - 2 ^ 51 ≡ f
      size f = omega arith
