-- One lane of `asinhs` against the definition. The pattern of a number from 1 to 2^31 holds the digits of its mantissa and its exponent, with no shift (`pattern_parts`), so its logarithm is
-- `ln_reduced` of the two fields. A lane is NaN or what the definition says: each test that it makes excludes the definition's other cases.
use mathlib.Core.Path.{◌≡◌, refl, sym, ap, ◌∙◌, subst}
use mathlib.Core.Bool.{Bool, true, false, cond, ◌&&◌, false≢true}
use Prim.Native.Nat.{ℕ, ◌+◌, ◌-◌, ◌*◌, ◌/◌, ◌%◌, ◌^◌, ◌≤◌, ◌<◌}
use native.Mathlib.Nat.{mul-pos, zero-mul, lt_of_not-le}
use native.Mathlib.Omega.{arith}
use lib.Dec.{T, ltb, ltb→lt, lit≤}
use lib.Pow.{pow_mono}
use lib.IntN.{ℤ, pos, sub_ℕ, ◌+ℤ◌}
use lib.Ieee.{Float, nan, inf, fin, binary64, up, down, of_int, of_bits, to_bits, fits, add, neg, lt, le, eq, is_nan}
use lib.Ieee.Fits.{add-fits, cond-fits, up_pos}
use lib.Ieee.Bits.{of_bits-to_bits, of_bits-fits, to_bits-lt}
use lib.Ieee.Exact.{HasValue}
use lib.Ieee.Positive.{positive, between, le→cross, values_of_le}
use borrow.Author.Tests.{le-ltb, ne_eqb}
use Rattle.binary64.specs.Binary64.{◌⊕◌, ◌⊖◌, ◌⊗◌, ◌⊘◌, plus_zero, half, one, two}
use Rattle.binary64.specs.Pattern.{significand_of, exponent_of}
use Rattle.binary64.proofs.Pattern.{significand-low, significand-high, bits-value}
use Rattle.ieee754.specs.Ieee754.{sqrt, sign_bit, abs, signed}
use Rattle.elementary.specs.Elementary.{C, ln2, two_to28, twice_artanh, mantissa, exponent, ln_at, ln_reduced, ln, asinh_of_magnitude, asinh}
use Rattle.elementary.specs.Elementary as Spec
use Rattle.elementary_lanes.specs.Lanes.{min_positive, two_to31, magnitude, radicand, excess, from_one, mantissa_of_bits, ln_fields, ln1p, lane}
use Rattle.elementary.proofs.Finite.{under_infinity}
use Rattle.elementary.proofs.Parts.{Parts, pattern_parts, same-difference, next}

-- ---- the lane's selects
one_more : (f : ℕ) → sub_ℕ f 1022 ≡ sub_ℕ f 1023 +ℤ pos 1
one_more f = same-difference f 1022 (f + 1) 1023 (omega arith) ∙ sym (next f 1023)

-- one division and one sum P for both cases of w, and both of m
pub one_division : (small halved : Bool) (w m : Float) (f : ℕ)
    → (let d = cond halved (m ⊗ half) m in let s = twice_artanh (cond small w (d ⊖ one) ⊘ cond small (two ⊕ w) (d ⊕ one)) in cond small s (of_int binary64 (sub_ℕ f (cond halved 1022 1023)) ⊗ ln2 ⊕ s))
    ≡ cond small (twice_artanh (w ⊘ (two ⊕ w))) (cond halved (ln_at (m ⊗ half) (of_int binary64 (sub_ℕ f 1023 +ℤ pos 1))) (ln_at m (of_int binary64 (sub_ℕ f 1023))))
unfolding ln_at
one_division true halved w m f = refl
one_division false true w m f = ap (λ (e : ℤ). ln_at (m ⊗ half) (of_int binary64 e)) (one_more f)
one_division false false w m f = refl

-- ---- tests
pub reached_number : (y : Float) → le one y ≡ true → is_nan y ≡ false
unfolding le is_nan of_bits
reached_number nan h = absurd (false≢true h)
reached_number (inf s) h = refl
reached_number (fin s m e) h = refl

pub pattern_lt : (w : Float) → to_bits binary64 (from_one (one ⊕ w)) < 2 ^ 64
unfolding from_one
pattern_lt w = to_bits-lt binary64 (cond (le one (one ⊕ w)) (one ⊕ w) one) (cond-fits binary64 (le one (one ⊕ w)) (one ⊕ w) one (add-fits binary64 one w) (of_bits-fits binary64 0x3ff0_0000_0000_0000))

pub both : (a b : Bool) → a && b ≡ true → (a ≡ true) × (b ≡ true)
both true b e = (refl, e)
both false b e = absurd (false≢true e)

holds : (b : Bool) → b ≡ true → T b
holds b e = subst T (sym e) tt

-- what is positive passes none of the tests of `ln`
pub record Ordinary (y : Float) : Type 0 where
  pub number : is_nan y ≡ false
  pub not-below : lt y plus_zero ≡ false
  pub not_zero : eq y plus_zero ≡ false
  pub finite : eq y (inf false) ≡ false

above : (m a : ℕ) → 0 < m → 0 < a → 0 < m * a * 1
above m a h k = mul-pos (mul-pos h k) (lit≤ tt)

differ : (a b : ℕ) → 0 < a → b ≡ 0 → a ≡ b → ⊥
differ a b h z e = omega arith

fin-not_zero : (s : Bool) (m : ℕ) (e : ℤ) → 0 < m → eq (fin s m e) plus_zero ≡ false
unfolding eq of_bits
fin-not_zero s m e h = rw (ne_eqb (m * up e * 1) (0 * 1 * down e) (differ (m * up e * 1) (0 * 1 * down e) (above m (up e) h (up_pos e)) (zero-mul (down e))))

none_below : (a b : ℕ) → b ≡ 0 → ltb a b ≡ false
none_below a b z = le-ltb a b (omega arith)

pub ordinary : (y : Float) → T (positive y) → Ordinary y
unfolding is_nan lt eq of_bits
ordinary nan p = absurd p
ordinary (inf s) p = absurd p
ordinary (fin true m e) p = absurd p
ordinary (fin false m e) p = record { number = refl; not-below = none_below (m * up e * 1) (0 * 1 * down e) (zero-mul (down e)); not_zero = fin-not_zero false m e (ltb→lt 0 m p); finite = refl }

not-above : (a b : Float) → T (positive a) → T (positive b) → T (le a b) → lt b a ≡ false
unfolding lt
not-above nan b p q h = absurd p
not-above (inf s) b p q h = absurd p
not-above (fin true m e) b p q h = absurd p
not-above (fin false m e) nan p q h = absurd q
not-above (fin false m e) (inf s) p q h = absurd q
not-above (fin false m e) (fin true n d) p q h = absurd q
not-above (fin false m e) (fin false n d) p q h = le-ltb (n * up d * down e) (m * up e * down d) (le→cross (fin false m e) (fin false n d) p q h)

-- ---- the logarithm of a number from 1 on
normal_parts : (b : ℕ) → 2 ^ 52 ≤ b → b < 0x7ff0_0000_0000_0000 → Parts (of_bits binary64 b) (significand_of b * 2 ^ 0) (exponent_of b + 52 - 0)
normal_parts b lo hi =
    let e = significand-high b lo in
    let d : 2 ^ 52 ≤ significand_of b * 2 ^ 0 = omega (arith, e) in
    let u : significand_of b * 2 ^ 0 < 2 ^ 53 = omega (arith, e) in
    pattern_parts b (significand_of b) (exponent_of b) 0 hi refl refl d u (omega arith)

normal_fields : (b : ℕ) → 2 ^ 52 ≤ b → b < 0x7ff0_0000_0000_0000 → ln_reduced (mantissa (of_bits binary64 b)) (exponent (of_bits binary64 b)) ≡ ln_reduced (mantissa_of_bits b) (sub_ℕ (b / 2 ^ 52) 1023)
unfolding mantissa_of_bits
normal_fields b lo hi =
    let p = normal_parts b lo hi in
    let e = significand-high b lo in
    let m : significand_of b * 2 ^ 0 % 2 ^ 64 + 0x3fe0_0000_0000_0000 ≡ b % 2 ^ 52 + 0x3ff0_0000_0000_0000 = omega (arith, e) in
    let x : sub_ℕ (exponent_of b + 52 - 0) 1074 ≡ sub_ℕ (b / 2 ^ 52) 1023 = same-difference (exponent_of b + 52 - 0) 1074 (b / 2 ^ 52) 1023 (omega arith) in
    (λ i. ln_reduced ((p.mantissa_is ∙ ap (of_bits binary64) m) i) ((p.exponent_is ∙ x) i))

one_value : HasValue one false 1 1
unfolding of_bits
one_value = (refl, refl)

one_positive : T (positive one)
unfolding of_bits
one_positive = tt

-- below 2^52 a pattern's value is below 1: 2^1074 of the smallest values
from-normal : (y : Float) → T (fits binary64 y) → T (positive y) → to_bits binary64 y < 0x7ff0_0000_0000_0000 → T (le one y) → 2 ^ 52 ≤ to_bits binary64 y
from-normal y held p u h =
    let r : 0xf_ffff_ffff_ffff < b =
    lt_of_not-le (λ (g : b ≤ 0xf_ffff_ffff_ffff). clash b (2 ^ 1074) g (pow_mono {i = 53} {j = 1074} (lit≤ tt)) (values_of_le one y 1 1 (b * 2 ^ 0) (2 ^ 1074) one_positive p one_value (value (omega arith)) h)) in
    omega arith
  where
    b : ℕ
    b = to_bits binary64 y

    clash : (b t : ℕ) → b ≤ 0xf_ffff_ffff_ffff → 2 ^ 53 ≤ t → 1 * t ≤ b * 2 ^ 0 * 1 → ⊥
    clash b t g l k = omega arith

    value : b < 2 ^ 52 → HasValue y false (b * 2 ^ 0) (2 ^ 1074)
    value g =
        let z : exponent_of b ≡ 0 = omega arith in
        subst (λ (v : Float). HasValue v false (b * 2 ^ 0) (2 ^ 1074)) (of_bits-to_bits binary64 y held)
        (subst (λ (k : ℕ). HasValue (of_bits binary64 b) false (k * 2 ^ 0) (2 ^ 1074)) (sym (significand-low b g))
        (subst (λ (k : ℕ). HasValue (of_bits binary64 b) false (significand_of b * 2 ^ k) (2 ^ 1074)) z (bits-value b u)))

ln_normal : (y : Float) → T (fits binary64 y) → T (positive y) → le one y ≡ true → ln y ≡ ln_fields y
unfolding ln ln_fields from_one
ln_normal y held p h =
    let b = to_bits binary64 y in
    let o = ordinary y p in
    let u : b < 0x7ff0_0000_0000_0000 = under_infinity y held o.number o.not-below o.not_zero o.finite in
    rw (o.number, o.not-below, o.not_zero, o.finite, h)
    (ap (λ (z : Float). ln_reduced (mantissa z) (exponent z)) (sym (of_bits-to_bits binary64 y held)) ∙ normal_fields b (from-normal y held p u (holds (le one y) h)) u)

to_two_31 : (y : Float) → le one y ≡ true → le y two_to31 ≡ true → T (positive y)
to_two_31 y h k = between one y two_to31 one_positive top (holds (le one y) h) (holds (le y two_to31) k)
  where
    top : T (positive two_to31)
    top = unfold of_bits in tt

ln1p-holds : (w : Float) → le one (one ⊕ w) && le (one ⊕ w) two_to31 ≡ true → ln1p w ≡ Spec.ln1p w
unfolding ln1p Spec.ln1p
ln1p-holds w t =
    let h = both (le one (one ⊕ w)) (le (one ⊕ w) two_to31) t in
    rw t (ap (cond (le w C) (twice_artanh (w ⊘ (two ⊕ w)))) (sym (ln_normal (one ⊕ w) (add-fits binary64 one w) (to_two_31 (one ⊕ w) h.0 h.1) h.0)))

ln1p_fails : (w : Float) → le one (one ⊕ w) && le (one ⊕ w) two_to31 ≡ false → ln1p w ≡ nan
unfolding ln1p
ln1p_fails w t = rw t

-- ---- the sign
pub record Signed (x : Float) : Type 0 where
  pub size : magnitude x ≡ abs x
  pub sign : lt x plus_zero ≡ sign_bit x
  pub not_zero : eq x plus_zero ≡ false
  pub number : is_nan x ≡ false

fin-signed : (s t : Bool) (m : ℕ) (e : ℤ) → lt (fin s m e) plus_zero ≡ t → T (positive (cond t (neg (fin s m e)) (fin s m e))) → Signed (fin s m e)
unfolding magnitude abs sign_bit is_nan neg
fin-signed true true m e h p = record { size = rw h; sign = h; not_zero = fin-not_zero true m e (ltb→lt 0 m p); number = refl }
fin-signed true false m e h p = absurd p
fin-signed false true m e h p = absurd p
fin-signed false false m e h p = record { size = rw h; sign = h; not_zero = fin-not_zero false m e (ltb→lt 0 m p); number = refl }

pub has_sign : (x : Float) → T (positive (magnitude x)) → Signed x
unfolding magnitude lt neg of_bits
has_sign nan p = absurd p
has_sign (inf true) p = absurd p
has_sign (inf false) p = absurd p
has_sign (fin s m e) p = fin-signed s (lt (fin s m e) plus_zero) m e refl p

-- ---- a lane
pub within : (a hi : Float) → T (positive hi) → le min_positive a ≡ true → le a hi ≡ true → T (positive a)
within a hi top h k = between min_positive a hi bottom top (holds (le min_positive a) h) (holds (le a hi) k)
  where
    bottom : T (positive min_positive)
    bottom = unfold of_bits in tt

sized : (a : Float) → le min_positive a && le a two_to28 ≡ true → T (positive a) × (lt two_to28 a ≡ false)
sized a t =
    let h = both (le min_positive a) (le a two_to28) t in
    let p = within a two_to28 top h.0 h.1 in
    (p, not-above a two_to28 p top (holds (le a two_to28) h.1))
  where
    top : T (positive two_to28)
    top = unfold of_bits in tt

pub same : (b : Bool) (x y : Float) → x ≡ y → cond b y x ≡ y
same true x y e = refl
same false x y e = e

definition : (x : Float) → Signed x → T (positive (abs x)) → lt two_to28 (abs x) ≡ false
    → asinh x ≡ signed (sign_bit x) (Spec.ln1p (abs x ⊕ abs x ⊗ abs x ⊘ (one ⊕ sqrt (abs x ⊗ abs x ⊕ one))))
unfolding asinh asinh_of_magnitude
definition x s p l = rw (s.not_zero, s.number, (ordinary (abs x) p).finite, l)

lane-signed : (x w : Float) → lt x plus_zero ≡ sign_bit x → ln1p w ≡ Spec.ln1p w → lane x w ≡ signed (sign_bit x) (Spec.ln1p w)
unfolding lane signed
lane-signed x w s e = (λ i. cond (s i) (neg (e i)) (e i))

nan_of_sign : (b : Bool) (v : Float) → cond (is_nan (cond b (neg nan) nan)) v (cond b (neg nan) nan) ≡ v
unfolding is_nan neg
nan_of_sign true v = refl
nan_of_sign false v = refl

lane-nan : (x w : Float) → ln1p w ≡ nan → cond (is_nan (lane x w)) (asinh x) (lane x w) ≡ asinh x
unfolding lane
lane-nan x w e = rw e (nan_of_sign (lt x plus_zero) (asinh x))

nan-lane : ln1p nan ≡ nan
unfolding ln1p add le of_bits
nan-lane = refl

excess-holds : (x q : Float) → le min_positive (magnitude x) && le (magnitude x) two_to28 ≡ true → excess x q ≡ magnitude x ⊕ magnitude x ⊗ magnitude x ⊘ (one ⊕ q)
unfolding excess
excess-holds x q t = rw t

excess_fails : (x q : Float) → le min_positive (magnitude x) && le (magnitude x) two_to28 ≡ false → excess x q ≡ nan
unfolding excess
excess_fails x q t = rw t

lane-holds : (x : Float) → le min_positive (magnitude x) && le (magnitude x) two_to28 ≡ true → (w : Float) → w ≡ excess x (sqrt (radicand x)) → ln1p w ≡ Spec.ln1p w → lane x w ≡ asinh x
unfolding radicand
lane-holds x t w e l =
    let z = sized (magnitude x) t in
    let s = has_sign x z.0 in
    let p : T (positive (abs x)) = subst (λ (a : Float). T (positive a)) s.size z.0 in
    let u : lt two_to28 (abs x) ≡ false = subst (λ (a : Float). lt two_to28 a ≡ false) s.size z.1 in
    let v : w ≡ abs x ⊕ abs x ⊗ abs x ⊘ (one ⊕ sqrt (abs x ⊗ abs x ⊕ one)) =
    e ∙ excess-holds x (sqrt (radicand x)) t ∙ ap (λ (a : Float). a ⊕ a ⊗ a ⊘ (one ⊕ sqrt (a ⊗ a ⊕ one))) s.size in
    lane-signed x w s.sign l ∙ ap (λ (y : Float). signed (sign_bit x) (Spec.ln1p y)) v ∙ sym (definition x s p u)

pub lane-or-asinh : (x : Float) → (let r = lane x (excess x (sqrt (radicand x))) in cond (is_nan r) (asinh x) r) ≡ asinh x
lane-or-asinh x = go (le min_positive (magnitude x) && le (magnitude x) two_to28) refl (le one (one ⊕ w) && le (one ⊕ w) two_to31) refl
  where
    w : Float
    w = excess x (sqrt (radicand x))

    go : (t : Bool) → le min_positive (magnitude x) && le (magnitude x) two_to28 ≡ t → (u : Bool) → le one (one ⊕ w) && le (one ⊕ w) two_to31 ≡ u
        → cond (is_nan (lane x w)) (asinh x) (lane x w) ≡ asinh x
    go true h true k = same (is_nan (lane x w)) (lane x w) (asinh x) (lane-holds x h w refl (ln1p-holds w k))
    go true h false k = lane-nan x w (ln1p_fails w k)
    go false h u k = lane-nan x w (ap ln1p (excess_fails x (sqrt (radicand x)) h) ∙ nan-lane)
