-- A lane that settles is `fma`: the laws of the square's residual, of the sum's tail and of the margin put together, for a and z in their ranges (`settled-fma`); and
-- the square alone where z is 0 (`alone_fma`).
use mathlib.Core.Path.{◌≡◌, refl, sym, ap, ◌∙◌, subst}
use mathlib.Core.Bool.{Bool, true, false, not, cond, ◌&&◌, ◌||◌, true≢false}
use Prim.Native.Nat.{ℕ, ◌+◌, ◌-◌, ◌*◌, ◌^◌, ◌≤◌, ◌<◌}
use native.Mathlib.Nat.{le_trans, le_of_eq, le_of_lt, lt_of_le_of_lt, lt_of_lt_of_le, add_comm, add-mul, mul_assoc, mul-pos, mul-le-mul_right, le_of_mul-le-mul_right, lt_of_mul-lt-mul_left, le-add_left, le-add_right, zero-mul}
use native.Mathlib.Omega.{arith}
use lib.Dec.{T, eqb, eqb→eq, nltb→le}
use lib.Pow.{pow-add, pow_pos, pow_mono}
use lib.Ieee.{Float, nan, inf, fin, binary64, size, fits, is_nan, unlike, up, down, round, sum, eq, lt, le, of_bits}
use lib.Ieee.Digits.{size-lt, size-le, size_reaches}
use lib.Ieee.Exact.{HasValue}
use lib.Ieee.Fits.{down_pos, mul-fits, and_l, and_r}
use lib.Ieee.Order.{transfer}
use lib.Ieee.Positive.{positive, positive_of_value, between}
use Rattle.binary64.specs.Binary64.{◌⊕◌, ◌⊖◌, ◌⊗◌, bits, plus_zero}
use Rattle.binary64.proofs.Bounded.{alike}
use Rattle.binary64.proofs.Size.{size_over}
use Rattle.binary64.proofs.Zeros.{sum_nought}
use Rattle.binary64.specs.Operations.{fma}
use Rattle.binary64.specs.Pattern.{mag}
use Rattle.binary64.specs.Nearest.{den}
use Rattle.binary64.proofs.Reading.{abs_of}
use Rattle.binary64.proofs.Values.{fma-values}
use Rattle.fused_lanes.specs.Lanes.{two_to_minus400, two_to_minus200, two_to_minus70, two_to200, two_to400, magnitude_or_zero, leading, square_residual, sum_residual, within, settled, square_add}
use Rattle.fused_lanes.proofs.Laws.Rounded.{Rounded, rounded, place_top}
use Rattle.fused_lanes.proofs.Laws.Around.{Around, plus_round, times_round}
use Rattle.fused_lanes.proofs.Laws.Square.{Residual, square_residual_lem, large_X, small_X}
use Rattle.fused_lanes.proofs.Laws.Tail.{tail}
use Rattle.fused_lanes.proofs.Laws.Margin.{Sizes, margin}
use Rattle.fused_lanes.proofs.Laws.Pattern.{Digits, digits, order, positive_value, unit-value, small_positive, large_positive, Operand, operand}
use Rattle.binary64.specs.Format.{lowest, trailing}

-- ---- the tail, whichever term is larger

less_le : (x y : Float) → lt x y ≡ true → T (le x y)
unfolding le
less_le x y e = subst (λ (b : Bool). T (b || eq x y)) (sym e) tt

not_less : (x y : Float) (a b c : ℕ) → 0 < c → HasValue x false a c → HasValue y false b c → lt x y ≡ false → b ≤ a
unfolding lt
not_less nan y a b c C X Y e = absurd X
not_less (inf s) y a b c C X Y e = absurd X
not_less (fin true m k) y a b c C X Y e = absurd (true≢false X.0)
not_less (fin false m k) nan a b c C X Y e = absurd Y
not_less (fin false m k) (inf t) a b c C X Y e = absurd Y
not_less (fin false m k) (fin true n d) a b c C X Y e = absurd (true≢false Y.0)
not_less (fin false m k) (fin false n d) a b c C X Y e =
    le_of_mul-le-mul_right
    (transfer b a c c (n * up d) (m * up k) (down d) (down k) (down_pos d) (down_pos k) (sym Y.1) (sym X.1)
    (nltb→le (m * up k * down d) (n * up d * down k) (subst (λ (b : Bool). T (not b)) (sym e) tt))) C

-- f is around the sum n less its rounded value
abbrev Tail : Float → ℕ → ℕ → Float → Type 0
Tail s t n f =
    (k : Rounded s false (n * 2 ^ lowest) (60 + t)) → n * 2 ^ lowest < 2 ^ (54 + (60 + t)) → Around f (n * 2 ^ lowest) (k.units * 2 ^ lowest) (2 ^ 7 * 2 ^ t)

module _ (s : Float) (t : ℕ) (lo : lowest ≤ t) (hi : t ≤ (place_top - 100)) where
  ordered_tail : (big small : Float) (B C : ℕ) → Digits B → HasValue big false B (2 ^ lowest) → HasValue small false C (2 ^ lowest) → C ≤ B
      → Tail s t (B + C) (small ⊖ (s ⊖ big))
  ordered_tail big small B C d X Y h =
      subst (λ (n : ℕ). HasValue big false n (2 ^ lowest) → C ≤ n → Tail s t (n + C) (small ⊖ (s ⊖ big))) (sym d.is)
      (λ X h k g. tail s big small d.m d.p C t d.first d.top lo hi X Y h k g) X h

  sum_tail : (q z : Float) (Q Z : ℕ) → Digits Q → Digits Z → 0 < Q → 0 < Z → HasValue q false Q (2 ^ lowest) → HasValue z false Z (2 ^ lowest)
      → Tail s t (Q + Z) (sum_residual q z s)
  unfolding sum_residual
  sum_tail q z Q Z D E some some-z X Y = go _ below above
    where
      below : lt z q ≡ true → Z ≤ Q
      below e = order z q Z Q (positive_of_value z Z (2 ^ lowest) Y some-z) (positive_of_value q Q (2 ^ lowest) X some) Y X (less_le z q e)

      above : lt z q ≡ false → Q ≤ Z
      above e = not_less z q Z Q (2 ^ lowest) (pow_pos lowest) Y X e

      go : (b : Bool) → (b ≡ true → Z ≤ Q) → (b ≡ false → Q ≤ Z) → Tail s t (Q + Z) (cond b z q ⊖ (s ⊖ cond b q z))
      go true l g = ordered_tail q z Q Z D X Y (l refl)
      go false l g = subst (λ (n : ℕ). Tail s t n (q ⊖ (s ⊖ z))) (add_comm Z Q) (ordered_tail z q Z Q E Y X (g refl))

-- ---- the constants

z_small : HasValue two_to_minus400 false (2 ^ (lowest - 400)) (2 ^ lowest)
unfolding of_bits
z_small = (refl, refl)

z_large : HasValue two_to400 false (2 ^ (lowest + 400)) (2 ^ lowest)
unfolding of_bits
z_large = (refl, refl)

z_small_positive : T (positive two_to_minus400)
unfolding of_bits
z_small_positive = tt

z_large_positive : T (positive two_to400)
unfolding of_bits
z_large_positive = tt

-- ---- numbers: k is the error of the square x, and q its rounded value

square_large : (x q k : ℕ) → 2 ^ 52 * k ≤ x → x ≤ q + k → 2 ^ 51 * k ≤ q
square_large x q k h g = omega arith

-- ---- fma

square-fma : (x z : Float) (s : Bool) (n Z : ℕ) → HasValue x s n (2 ^ lowest) → HasValue z false Z (2 ^ lowest)
    → round binary64 false (n * n + Z * 2 ^ lowest) den ≡ fma x x z
unfolding sum
square-fma x z s n Z X Y =
    ap (λ (b : Bool). sum binary64 b (n * n) false (Z * 2 ^ lowest) den) (sym (alike s)) ∙ fma-values x x z s s false n n Z X X Y

-- ---- a and z in their ranges
module _ (x z : Float) (o : Operand x) (held : T (fits binary64 z)) (pz : T (positive z)) (zlo : T (le two_to_minus400 z)) (zhi : T (le z two_to400)) where
  abbrev a : Float
  a = bits (magnitude_or_zero x)

  abbrev h : Float
  h = leading (magnitude_or_zero x)

  abbrev l : ℕ
  l = 2 ^ lowest

  abbrev p : ℕ
  p = o.p

  abbrev n : ℕ
  n = o.m * 2 ^ o.p

  abbrev Y : ℕ
  Y = 2 ^ (o.p + o.p)

  -- the errors of the square and of its residual
  abbrev K : ℕ
  K = 2 ^ 52 * Y

  abbrev J : ℕ
  J = 2 ^ 30 * Y

  r : Residual a h (n * n) Y
  r = square_residual_lem a h o.m o.p o.first o.top o.low o.high o.size o.lead

  abbrev Q : ℕ
  Q = r.Q

  abbrev Z : ℕ
  Z = mag (abs_of z)

  z_value : HasValue z false Z l
  z_value = positive_value z held pz

  z_low : 2 ^ (lowest - 400) ≤ Z
  z_low = order two_to_minus400 z (2 ^ (lowest - 400)) Z z_small_positive pz z_small z_value zlo

  z_high : Z ≤ 2 ^ (lowest + 400)
  z_high = order z two_to400 Z (2 ^ (lowest + 400)) pz z_large_positive z_value z_large zhi

  q_large : 2 ^ 51 * K ≤ Q * l
  q_large =
      square_large (n * n) (Q * l) K
      (le_trans (le_of_eq (sym (mul_assoc (2 ^ 52) (2 ^ 52) Y))) (large_X a h o.m o.p o.first o.top o.low o.high o.size o.lead)) r.lower

  q_low : 2 ^ 673 ≤ Q
  q_low =
      le_of_mul-le-mul_right
      (le_trans (le_of_eq (sym (pow-add 2 673 lowest)))
      (le_trans (pow_mono (place o.p o.low))
      (le_trans (le_of_eq (pow-add 2 103 (o.p + o.p) ∙ mul_assoc (2 ^ 51) (2 ^ 52) Y)) q_large))) (pow_pos lowest)
    where
      place : (p : ℕ) → (lowest - 200 - trailing) ≤ p → 673 + lowest ≤ 103 + (p + p)
      place p h = omega arith

  q_high : Q * l < 2 ^ 2551
  q_high =
      lt_of_lt_of_le
      (under (Q * l) (n * n) (2 ^ 52 * Y) (2 ^ 106 * Y) r.upper (small_X a h o.m o.p o.first o.top o.low o.high o.size o.lead)
      (mul-le-mul_right Y (lib.Dec.lit≤ tt)))
      (le_trans (le_of_eq (sym (mul_assoc 2 (2 ^ 106) Y) ∙ sym (pow-add 2 107 (o.p + o.p)))) (pow_mono (place o.p o.high)))
    where
      under : (q x k w : ℕ) → q ≤ x + k → x < w → k ≤ w → q < 2 * w
      under q x k w a b c = omega arith

      place : (p : ℕ) → p ≤ (lowest + 200 - trailing) → 107 + (p + p) ≤ 2551
      place p h = omega arith

  -- ---- the exact sum of the rounded square and z

  abbrev v : ℕ
  v = Q * l + Z * l

  v_low : 2 ^ 1748 ≤ v
  v_low = le_trans (le_of_eq (pow-add 2 (lowest - 400) lowest)) (le_trans (mul-le-mul_right l z_low) (le-add_left (Z * l) (Q * l)))

  v_high : v < 2 ^ 2552
  v_high =
      lt_of_lt_of_le (total (Q * l) (Z * l) (2 ^ 2551) q_high (le_trans (mul-le-mul_right l z_high) (le_trans (le_of_eq (sym (pow-add 2 (lowest + 400) lowest))) (pow_mono {i = (lowest + 400) + lowest} {j = 2551} (lib.Dec.lit≤ tt)))))
      (le_of_eq (sym (pow-add 2 1 2551)))
    where
      total : (q z w : ℕ) → q < w → z ≤ w → q + z < 2 * w
      total q z w a b = omega arith

  t : ℕ
  t = size v - 114

  v_size : (1749 ≤ size v) × (size v ≤ 2552)
  v_size = (size_over v 1748 v_low, size-le v 2552 v_high)

  t_low : lowest ≤ t
  unfolding t
  t_low = go (size v) v_size.0
    where
      go : (z : ℕ) → 1749 ≤ z → lowest ≤ z - 114
      go z h = omega arith

  t_high : t ≤ (place_top - 100)
  unfolding t
  t_high = go (size v) v_size.1
    where
      go : (z : ℕ) → z ≤ 2552 → z - 114 ≤ (place_top - 100)
      go z h = omega arith

  most : v < 2 ^ (54 + (60 + t))
  unfolding t
  most = subst (λ (k : ℕ). v < 2 ^ k) (go (size v) v_size.0) (size-lt v)
    where
      go : (z : ℕ) → 1749 ≤ z → z ≡ 54 + (60 + (z - 114))
      go z h = omega arith

  least : 2 ^ (53 + (60 + t)) ≤ v
  unfolding t
  least = size_reaches v (53 + (60 + (size v - 114))) (go (size v) v_size.0)
    where
      go : (z : ℕ) → 1749 ≤ z → 53 + (60 + (z - 114)) < z
      go z h = omega arith

  sum_is : (Q + Z) * l ≡ v
  sum_is = add-mul Q Z l

  R : Rounded (a ⊗ a ⊕ z) false ((Q + Z) * l) (60 + t)
  R = subst (λ (f : Float). Rounded f false ((Q + Z) * l) (60 + t)) (sym (plus_round (a ⊗ a) z Q Z r.value z_value))
      (rounded ((Q + Z) * l) (60 + t) (low t t_low) (high t t_high) (lt_of_le_of_lt (le_of_eq sum_is) most) false)
    where
      low : (t : ℕ) → lowest ≤ t → lowest ≤ 60 + t
      low t h = omega arith

      high : (t : ℕ) → t ≤ (place_top - 100) → 60 + t ≤ place_top
      high t h = omega arith

  k_small : K ≤ 2 ^ 63 * 2 ^ t
  k_small =
      le_of_lt (lt_of_mul-lt-mul_left (2 ^ 51)
      (lt_of_le_of_lt q_large (lt_of_le_of_lt (le-add_right (Q * l) (Z * l)) (lt_of_lt_of_le most (le_of_eq (ap (λ (k : ℕ). 2 ^ k) (place t) ∙ pow-add 2 51 (63 + t) ∙ ap (λ (k : ℕ). 2 ^ 51 * k) (pow-add 2 63 t)))))))
    where
      place : (t : ℕ) → 54 + (60 + t) ≡ 51 + (63 + t)
      place t = omega arith

  sizes : Sizes (n * n) (Q * l) (Z * l) (R.units * l) (2 ^ 22 * J) J (2 ^ t)
  sizes =
      let e : 2 ^ 22 * J ≡ K = sym (mul_assoc (2 ^ 22) (2 ^ 30) Y) in
      record {
        some = pow_pos t;
        upper = le_trans r.lower (le_of_eq (ap (λ (k : ℕ). Q * l + k) (sym e)));
        lower = le_trans r.upper (le_of_eq (ap (λ (k : ℕ). n * n + k) (sym e)));
        above = le_trans R.upper (le_of_eq (ap (λ (k : ℕ). k + 2 ^ (60 + t)) sum_is ∙ ap (λ (k : ℕ). v + k) (pow-add 2 60 t)));
        below = le_trans (le_of_eq (sym sum_is)) (le_trans R.lower (le_of_eq (ap (λ (k : ℕ). R.units * l + k) (pow-add 2 60 t))));
        large = le_trans (le_of_eq (sym (pow-add 2 66 t))) (le_trans (pow_mono (place t)) least);
        square = le_trans (le_of_eq e) k_small;
        residual = residual J (2 ^ t) (le_trans (le_of_eq e) k_small);
      }
    where
      place : (t : ℕ) → 66 + t ≤ 53 + (60 + t)
      place t = omega arith

      residual : (j y : ℕ) → 2 ^ 22 * j ≤ 2 ^ 63 * y → j ≤ 2 ^ 41 * y
      residual j y h = omega arith

  the_tail : Around (sum_residual (a ⊗ a) z (a ⊗ a ⊕ z)) v (R.units * l) (2 ^ 7 * 2 ^ t)
  the_tail =
      subst (λ (k : ℕ). Around (sum_residual (a ⊗ a) z (a ⊗ a ⊕ z)) k (R.units * l) (2 ^ 7 * 2 ^ t)) sum_is
      (sum_tail (a ⊗ a ⊕ z) t t_low t_high (a ⊗ a) z Q Z (digits (a ⊗ a) Q (mul-fits binary64 a a) r.value (le_trans (lib.Dec.lit≤ tt) q_low))
      (digits z Z held z_value (le_trans (lib.Dec.lit≤ tt) z_low)) (lt_of_lt_of_le (pow_pos 673) q_low) (lt_of_lt_of_le (pow_pos (lowest - 400)) z_low) r.value
      z_value R (lt_of_le_of_lt (le_of_eq sum_is) most))

  -- the sum that is tested
  abbrev s : Float
  s = a ⊗ a ⊕ z

  abbrev residual : Float
  residual = square_residual a h (a ⊗ a) ⊕ sum_residual (a ⊗ a) z s

  settled-fma : T (le (s ⊕ (residual ⊕ s ⊗ two_to_minus70)) (s ⊕ (residual ⊖ s ⊗ two_to_minus70))) → s ⊕ (residual ⊕ s ⊗ two_to_minus70) ≡ fma x x z
  unfolding square_residual
  settled-fma g =
      margin (square_residual a h (a ⊗ a)) (sum_residual (a ⊗ a) z s) s two_to_minus70 (n * n) J Q Z R.units t t_low t_high R.value unit-value sizes most least r.low
      the_tail g
      ∙ square-fma x z o.sign n Z o.itself z_value

-- ---- z is 0

zero_value : (u : Bool) (m : ℕ) (e : lib.IntN.ℤ) → T (eq (fin u m e) plus_zero) → HasValue (fin u m e) u 0 (2 ^ lowest)
unfolding eq of_bits
zero_value u m e g =
    let z : m * up e * 1 ≡ 0 * 1 * down e = eqb→eq (m * up e * 1) (0 * 1 * down e) (and_l (eqb (m * up e * 1) (0 * 1 * down e)) _ g) in
    (refl, ap (λ (k : ℕ). k * 2 ^ lowest) (sym (native.Mathlib.Nat.mul-one (m * up e)) ∙ z ∙ zero-mul (down e)) ∙ zero-mul (2 ^ lowest) ∙ sym (zero-mul (down e)))

alone_fma : (x z : Float) (o : Operand x) → T (eq z plus_zero) → bits (magnitude_or_zero x) ⊗ bits (magnitude_or_zero x) ≡ fma x x z
alone_fma x nan o g = absurd (unfold eq of_bits in g)
alone_fma x (inf u) o g = absurd (unfold eq of_bits in g)
alone_fma x (fin u m e) o g =
    let a = bits (magnitude_or_zero x) in
    let n = o.m * 2 ^ o.p in
    times_round a a false false n n o.size o.size
    ∙ sym (sum_nought false u (n * n) den (mul-pos some some))
    ∙ ap (λ (b : Bool). sum binary64 b (n * n) u 0 den) (sym (alike o.sign))
    ∙ ap (λ (k : ℕ). sum binary64 (unlike o.sign o.sign) (n * n) u k den) (sym (zero-mul (2 ^ lowest)))
    ∙ fma-values x x (fin u m e) o.sign o.sign u n n 0 o.itself o.itself (zero_value u m e g)
  where
    some : 0 < o.m * 2 ^ o.p
    some = mul-pos (lt_of_lt_of_le (pow_pos 52) o.first) (pow_pos o.p)

-- ---- the lane

module _ (x z : Float) (held_x : T (fits binary64 x)) (held-z : T (fits binary64 z)) where
  abbrev size_x : Float
  size_x = bits (magnitude_or_zero x)

  operand_of : T (within two_to_minus200 (bits (magnitude_or_zero x)) two_to200) → Operand x
  operand_of g =
      let lo = and_l (le two_to_minus200 size_x) (le size_x two_to200) g in
      let hi = and_r (le two_to_minus200 size_x) (le size_x two_to200) g in
      operand x held_x (between two_to_minus200 size_x two_to200 small_positive large_positive lo hi) lo hi

  abbrev total : Float
  total = size_x ⊗ size_x ⊕ z

  abbrev residuals : Float
  residuals = square_residual size_x (leading (magnitude_or_zero x)) (size_x ⊗ size_x) ⊕ sum_residual (size_x ⊗ size_x) z total

  abbrev high : Float
  high = total ⊕ (residuals ⊕ total ⊗ two_to_minus70)

  abbrev low : Float
  low = total ⊕ (residuals ⊖ total ⊗ two_to_minus70)

  abbrev plain : Bool
  plain = within two_to_minus200 (bits (magnitude_or_zero x)) two_to200

  passed : T (le high low && (plain && within two_to_minus400 z two_to400)) → high ≡ fma x x z
  passed g =
      let ranges = and_r (le high low) (plain && within two_to_minus400 z two_to400) g in
      let inside = and_r plain (within two_to_minus400 z two_to400) ranges in
      let lo = and_l (le two_to_minus400 z) (le z two_to400) inside in
      let hi = and_r (le two_to_minus400 z) (le z two_to400) inside in
      settled-fma x z (operand_of (and_l plain (within two_to_minus400 z two_to400) ranges)) held-z
      (between two_to_minus400 z two_to400 z_small_positive z_large_positive lo hi) lo hi (and_l (le high low) (plain && within two_to_minus400 z two_to400) g)

  pub lane-fma : is_nan (square_add x z) ≡ false → square_add x z ≡ fma x x z
  unfolding square_add settled
  lane-fma =
      go (le high low && (plain && within two_to_minus400 z two_to400)) (plain && eq z plus_zero) passed
      (λ g. alone_fma x z (operand_of (and_l plain (eq z plus_zero) g)) (and_r plain (eq z plus_zero) g))
    where
      go : (b c : Bool) → (T b → high ≡ fma x x z) → (T c → size_x ⊗ size_x ≡ fma x x z)
          → is_nan (cond b high (cond c (size_x ⊗ size_x) nan)) ≡ false → cond b high (cond c (size_x ⊗ size_x) nan) ≡ fma x x z
      go true c f g e = f tt
      go false true f g e = g tt
      go false false f g e = absurd (true≢false (unfold is_nan in e))
