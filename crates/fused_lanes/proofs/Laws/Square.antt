-- What the square's rounding left off. a is m * 2 ^ p of the smallest values, h the same with the last 27 digits of m cut off. In units of 2 ^ (2 * p) the
-- square of h has 52 digits, (a − h) * (a + h) is below 2 ^ 81, and so is all that is rounded on the way to a * a − q (`Residual`), but for q itself.
use mathlib.Core.Path.{◌≡◌, refl, sym, ap, ◌∙◌, subst}
use mathlib.Core.Bool.{false}
use Prim.Native.Nat.{ℕ, ◌+◌, ◌-◌, ◌*◌, ◌/◌, ◌%◌, ◌^◌, ◌≤◌, ◌<◌}
use native.Mathlib.Nat.{le_refl, le_trans, add-le-add, le_of_eq, le_of_lt, lt_of_le_of_lt, lt_of_lt_of_le, add_assoc, add_comm, mul-add, add-mul, mul_assoc, mul_comm, mul_left_comm, mul-le-mul, mul-le-mul_left, mul-le-mul_right, mul-lt-mul_of_pos_left, mul-lt-mul_of_pos_right, le_of_mul-le-mul_right, mod-lt}
use native.Mathlib.Omega.{arith}
use lib.Pow.{pow-add, pow_pos, split}
use lib.Ieee.{Float, binary64, round}
use lib.Ieee.Exact.{HasValue}
use Rattle.binary64.specs.Binary64.{◌⊕◌, ◌⊖◌, ◌⊗◌}
use Rattle.binary64.specs.Nearest.{den}
use Rattle.fused_lanes.proofs.Laws.Rounded.{Rounded, rounded, exact, place_top}
use Rattle.fused_lanes.proofs.Laws.Around.{Apart, Around, of_value, around_same, difference_around, plus_round, less_round, times_round}
use Rattle.binary64.specs.Format.{lowest, trailing}

-- ---- numbers

product_lt : (x y a b : ℕ) → x < a → y < b → x * y < a * b
product_lt x y a b h k = lt_of_le_of_lt (mul-le-mul_right y (le_of_lt h)) (mul-lt-mul_of_pos_left k (some x a h))
  where
    some : (x a : ℕ) → x < a → 0 < a
    some x a h = omega arith

-- the last 27 digits, and the others
abbrev residual : ℕ → ℕ
residual m = m % 2 ^ 27

abbrev lead : ℕ → ℕ
lead m = m / 2 ^ 27 * 2 ^ 27

squares : (k r : ℕ) → (k + r) * (k + r) ≡ k * k + r * (k + r + k)
squares k r = simp (mul-add, add-mul, mul_comm, add_assoc, add_comm) refl

regroup : (a b x y : ℕ) → a * x * (b * y) ≡ a * b * (x * y)
regroup a b x y = simp (mul_assoc, mul_left_comm)

twice : (m : ℕ) → m < 2 ^ 53 → m + m / 2 ^ 27 * 2 ^ 27 < 2 ^ 54
twice m h = omega arith

-- of a square and the cut one, in units of 2 ^ (2 * p)
pub record Parts (m : ℕ) : Type 0 where
  pub low : 2 ^ 104 ≤ m * m
  pub high : m * m < 2 ^ 106
  pub cut : lead m * lead m < 2 ^ 106
  pub digits : m / 2 ^ 27 * (m / 2 ^ 27) < 2 ^ 53
  pub sum : m * m ≡ lead m * lead m + residual m * (m + lead m)
  pub small : residual m * (m + lead m) < 2 ^ 81

parts : (m : ℕ) → 2 ^ 52 ≤ m → m < 2 ^ 53 → Parts m
parts m lo hi =
    record {
      low = mul-le-mul lo lo;
      high = product_lt m m (2 ^ 53) (2 ^ 53) hi hi;
      cut = product_lt (lead m) (lead m) (2 ^ 53) (2 ^ 53) (lead-lt m hi) (lead-lt m hi);
      digits = lt_of_lt_of_le (product_lt (m / 2 ^ 27) (m / 2 ^ 27) (2 ^ 26) (2 ^ 26) (few m hi) (few m hi)) (lib.Dec.lit≤ tt);
      sum = subst (λ (x : ℕ). x * x ≡ lead m * lead m + residual m * (x + lead m)) (split m 27) (squares (lead m) (residual m));
      small = product_lt (residual m) (m + lead m) (2 ^ 27) (2 ^ 54) (mod-lt m (pow_pos 27)) (twice m hi);
    }
  where
    lead-lt : (m : ℕ) → m < 2 ^ 53 → m / 2 ^ 27 * 2 ^ 27 < 2 ^ 53
    lead-lt m h = omega arith

    few : (m : ℕ) → m < 2 ^ 53 → m / 2 ^ 27 < 2 ^ 26
    few m h = omega arith

-- 2 ^ (54 + (k + n)) in units of 2 ^ n
pub room : (k n : ℕ) → 2 ^ (54 + (k + n)) ≡ 2 ^ 54 * (2 ^ k * 2 ^ n)
room k n = pow-add 2 54 (k + n) ∙ ap (λ (x : ℕ). 2 ^ 54 * x) (pow-add 2 k n)

-- ---- the residual of the square

-- q is Q of the smallest values
pub record Residual (a h : Float) (X Y : ℕ) : Type 0 where
  pub Q : ℕ
  pub value : HasValue (a ⊗ a) false Q (2 ^ lowest)
  pub upper : Q * 2 ^ lowest ≤ X + 2 ^ 52 * Y
  pub lower : X ≤ Q * 2 ^ lowest + 2 ^ 52 * Y
  pub low : Around ((a ⊖ h) ⊗ (a ⊕ h) ⊖ (a ⊗ a ⊖ h ⊗ h)) X (Q * 2 ^ lowest) (2 ^ 30 * Y)

module _ (a h : Float) (m p : ℕ) (first : 2 ^ 52 ≤ m) (top : m < 2 ^ 53) (lo : (lowest - 200 - trailing) ≤ p) (hi : p ≤ (lowest + 200 - trailing)) (A : HasValue a false (m * 2 ^ p) (2 ^ lowest))
    (H : HasValue h false (m / 2 ^ 27 * 2 ^ 27 * 2 ^ p) (2 ^ lowest)) where
  abbrev l : ℕ
  l = 2 ^ lowest

  abbrev u : ℕ
  u = 2 ^ p

  -- the unit of the squares
  abbrev n : ℕ
  n = p + p

  abbrev Y : ℕ
  Y = 2 ^ (p + p)

  abbrev k : ℕ
  k = m / 2 ^ 27 * 2 ^ 27

  abbrev r : ℕ
  r = m % 2 ^ 27

  N : Parts m
  N = parts m first top

  in_units : (x y : ℕ) → x * 2 ^ p * (y * 2 ^ p) ≡ x * y * 2 ^ (p + p)
  in_units x y = regroup x y (2 ^ p) (2 ^ p) ∙ ap (λ (z : ℕ). x * y * z) (sym (pow-add 2 p p))

  in_range : (k : ℕ) → k ≤ 100 → (lowest ≤ k + (p + p)) × (k + (p + p) ≤ place_top)
  in_range k h = go k p h lo hi
    where
      go : (k p : ℕ) → k ≤ 100 → (lowest - 200 - trailing) ≤ p → p ≤ (lowest + 200 - trailing) → (lowest ≤ k + (p + p)) × (k + (p + p) ≤ place_top)
      go k p a b c = omega arith

  place_range : (lowest ≤ p + lowest) × (p + lowest ≤ place_top)
  place_range = go p hi
    where
      go : (p : ℕ) → p ≤ (lowest + 200 - trailing) → (lowest ≤ p + lowest) × (p + lowest ≤ place_top)
      go p h = omega arith

  -- 54 digits at a's last place
  at_place : (x : ℕ) → x < 2 ^ 54 → x * 2 ^ p * 2 ^ lowest < 2 ^ (54 + (p + lowest))
  at_place x h =
      lt_of_lt_of_le (mul-lt-mul_of_pos_right (mul-lt-mul_of_pos_right h (pow_pos p)) (pow_pos lowest)) (le_of_eq (mul_assoc (2 ^ 54) u l ∙ sym (room p lowest)))

  -- and of a square
  at_square : (x : ℕ) → x < 2 ^ 106 * 2 ^ (p + p) → x < 2 ^ (54 + (52 + (p + p)))
  at_square x h = lt_of_lt_of_le h (le_of_eq (mul_assoc (2 ^ 54) (2 ^ 52) Y ∙ sym (room 52 n)))

  -- a − h
  difference : HasValue (a ⊖ h) false (r * u) l
  difference = subst (λ (x : Float). HasValue x false (r * u) l) (sym (less_round a h (m * u) (k * u) A H (under (k * u) (r * u) (m * u) whole)))
      (exact (round binary64 false ((m * u - k * u) * l) den) false ((m * u - k * u) * l) (p + lowest) r p
      (rounded ((m * u - k * u) * l) (p + lowest) place_range.0 place_range.1
      (subst (λ (x : ℕ). x * l < 2 ^ (54 + (p + lowest))) (sym is) (at_place r (lt_of_lt_of_le (mod-lt m (pow_pos 27)) (lib.Dec.lit≤ tt)))) false)
      (lt_of_lt_of_le (mod-lt m (pow_pos 27)) (lib.Dec.lit≤ tt)) (ap (λ (x : ℕ). x * l) is))
    where
      whole : k * u + r * u ≡ m * u
      whole = sym (add-mul k r u) ∙ ap (λ (x : ℕ). x * u) (split m 27)

      under : (x y z : ℕ) → x + y ≡ z → x ≤ z
      under x y z e = omega arith

      less : (x y z : ℕ) → x + y ≡ z → z - x ≡ y
      less x y z e = omega arith

      is : m * u - k * u ≡ r * u
      is = less (k * u) (r * u) (m * u) whole

  -- a + h
  total : Rounded (a ⊕ h) false ((m * u + k * u) * l) (p + lowest)
  total = subst (λ (x : Float). Rounded x false ((m * u + k * u) * l) (p + lowest)) (sym (plus_round a h (m * u) (k * u) A H))
      (rounded ((m * u + k * u) * l) (p + lowest) place_range.0 place_range.1
      (subst (λ (x : ℕ). x * l < 2 ^ (54 + (p + lowest))) (add-mul m k u) (at_place (m + k) (twice m top))) false)

  abbrev E : ℕ
  E = total.units

  total-upper : E ≤ m * u + k * u + u
  total-upper =
      le_of_mul-le-mul_right
      (le_trans total.upper (le_of_eq (ap (λ (x : ℕ). (m * u + k * u) * l + x) (pow-add 2 p lowest) ∙ sym (add-mul (m * u + k * u) u l)))) (pow_pos lowest)

  total-lower : m * u + k * u ≤ E + u
  total-lower =
      le_of_mul-le-mul_right (le_trans total.lower (le_of_eq (ap (λ (x : ℕ). E * l + x) (pow-add 2 p lowest) ∙ sym (add-mul E u l)))) (pow_pos lowest)

  -- (a − h) * (a + h)
  W : ℕ
  W = r * (m + k) * Y

  -- with the error of the sum
  exact_product : r * u * (m * u + k * u) ≡ W
  unfolding W
  exact_product = ap (λ (x : ℕ). r * u * x) (sym (add-mul m k u)) ∙ in_units r (m + k)

  sum_error : r * u * u ≤ 2 ^ 27 * Y
  sum_error = le_trans (le_of_eq (mul_assoc r u u ∙ ap (λ (x : ℕ). r * x) (sym (pow-add 2 p p)))) (mul-le-mul_right Y (le_of_lt (mod-lt m (pow_pos 27))))

  product_upper : r * u * E ≤ W + 2 ^ 27 * Y
  product_upper =
      le_trans (mul-le-mul_left (r * u) total-upper)
      (le_trans (le_of_eq (mul-add (r * u) (m * u + k * u) u ∙ ap (λ (x : ℕ). x + r * u * u) exact_product)) (add-le-add (le_refl W) sum_error))

  product_lower : W ≤ r * u * E + 2 ^ 27 * Y
  product_lower =
      le_trans (le_of_eq (sym exact_product))
      (le_trans (mul-le-mul_left (r * u) total-lower) (le_trans (le_of_eq (mul-add (r * u) E u)) (add-le-add (le_refl (r * u * E)) sum_error)))

  abbrev X : ℕ
  X = m * u * (m * u)

  abbrev S : ℕ
  S = k * u * (k * u)

  squares_apart : X ≡ S + W
  unfolding W
  squares_apart =
      in_units m m ∙ ap (λ (x : ℕ). x * Y) N.sum ∙ add-mul (k * k) (r * (m + k)) Y ∙ ap (λ (x : ℕ). x + r * (m + k) * Y) (sym (in_units k k))

  small_W : W < 2 ^ 81 * Y
  unfolding W
  small_W = mul-lt-mul_of_pos_right N.small (pow_pos (p + p))

  pub small_X : m * 2 ^ p * (m * 2 ^ p) < 2 ^ 106 * 2 ^ (p + p)
  small_X = lt_of_le_of_lt (le_of_eq (in_units m m)) (mul-lt-mul_of_pos_right N.high (pow_pos (p + p)))

  small_S : S < 2 ^ 106 * Y
  small_S = lt_of_le_of_lt (le_of_eq (in_units k k)) (mul-lt-mul_of_pos_right N.cut (pow_pos (p + p)))

  pub large_X : 2 ^ 104 * 2 ^ (p + p) ≤ m * 2 ^ p * (m * 2 ^ p)
  large_X = le_trans (mul-le-mul_right Y N.low) (le_of_eq (sym (in_units m m)))

  product : Around ((a ⊖ h) ⊗ (a ⊕ h)) X S (2 ^ 29 * Y)
  product =
      let g : Rounded ((a ⊖ h) ⊗ (a ⊕ h)) false (r * u * E) (28 + n) =
      subst (λ (x : Float). Rounded x false (r * u * E) (28 + n)) (sym (times_round (a ⊖ h) (a ⊕ h) false false (r * u) E difference total.value))
      (rounded (r * u * E) (28 + n) (in_range 28 (lib.Dec.lit≤ tt)).0 (in_range 28 (lib.Dec.lit≤ tt)).1
      (below (r * u * E) W (2 ^ 27 * Y) (2 ^ 81 * Y) (2 ^ (54 + (28 + n))) product_upper small_W (mul-le-mul_right Y (lib.Dec.lit≤ tt))
      (room 28 n ∙ sym (mul_assoc (2 ^ 54) (2 ^ 28) Y) ∙ mul_assoc 2 (2 ^ 81) Y)) false) in
      record {
        negative = false;
        units = g.units;
        value = g.value;
        near = near (g.units * l) (r * u * E) W X S Y (2 ^ (28 + n)) g.upper g.lower product_upper product_lower squares_apart (pow-add 2 28 n);
      }
    where
      below : (v w x y t : ℕ) → v ≤ w + x → w < y → x ≤ y → t ≡ 2 * y → v < t
      below v w x y t a b c d = omega arith

      near : (g v w x s y e : ℕ) → g ≤ v + e → v ≤ g + e → v ≤ w + 2 ^ 27 * y → w ≤ v + 2 ^ 27 * y → x ≡ s + w → e ≡ 2 ^ 28 * y → Apart g 0 x s (2 ^ 29 * y)
      near g v w x s y e a b c d f q = omega arith

  -- h * h
  cut_square : Around (h ⊗ h) S 0 0
  cut_square =
      subst (λ (x : ℕ). Around (h ⊗ h) x 0 0) (sym is)
      (of_value (h ⊗ h) (c * c * 2 ^ j)
      (exact (h ⊗ h) false S (52 + n) (c * c) j
      (subst (λ (x : Float). Rounded x false S (52 + n)) (sym (times_round h h false false (k * u) (k * u) H H))
      (rounded S (52 + n) (in_range 52 (lib.Dec.lit≤ tt)).0 (in_range 52 (lib.Dec.lit≤ tt)).1 (at_square S small_S) false))
      N.digits is))
    where
      c : ℕ
      c = m / 2 ^ 27

      j : ℕ
      j = 54 + (p + p) - lowest

      back : (p : ℕ) → (lowest - 200 - trailing) ≤ p → 54 + (p + p) ≡ 54 + (p + p) - lowest + lowest
      back p h = omega arith

      is : S ≡ c * c * 2 ^ j * l
      is =
          in_units k k
          ∙ ap (λ (x : ℕ). x * Y) (regroup c c (2 ^ 27) (2 ^ 27))
          ∙ mul_assoc (c * c) (2 ^ 54) Y
          ∙ ap (λ (x : ℕ). c * c * x) (sym (pow-add 2 54 (p + p)) ∙ ap (λ (x : ℕ). 2 ^ x) (back p lo) ∙ pow-add 2 j lowest)
          ∙ sym (mul_assoc (c * c) (2 ^ j) l)

  square : Rounded (a ⊗ a) false X (52 + n)
  square = subst (λ (x : Float). Rounded x false X (52 + n)) (sym (times_round a a false false (m * u) (m * u) A A))
      (rounded X (52 + n) (in_range 52 (lib.Dec.lit≤ tt)).0 (in_range 52 (lib.Dec.lit≤ tt)).1 (at_square X small_X) false)

  abbrev Q : ℕ
  Q = square.units

  square-upper : Q * l ≤ X + 2 ^ 52 * Y
  square-upper = le_trans square.upper (le_of_eq (ap (λ (x : ℕ). X + x) (pow-add 2 52 n)))

  square-lower : X ≤ Q * l + 2 ^ 52 * Y
  square-lower = le_trans square.lower (le_of_eq (ap (λ (x : ℕ). Q * l + x) (pow-add 2 52 n)))

  -- q − h * h
  second : Around (a ⊗ a ⊖ h ⊗ h) (Q * l + 0) (0 + S) (0 + 0 + 2 ^ (28 + n))
  second =
      difference_around (a ⊗ a) (h ⊗ h) (Q * l) 0 0 S 0 0 (28 + n) (of_value (a ⊗ a) Q square.value) cut_square
      (record {
        low = (in_range 28 (lib.Dec.lit≤ tt)).0;
        high = (in_range 28 (lib.Dec.lit≤ tt)).1;
        upper = upper (Q * l) S X W Y (2 ^ (54 + (28 + n))) square-upper squares_apart small_W (room 28 n);
        lower = lower (Q * l) S X W Y (2 ^ (54 + (28 + n))) square-lower squares_apart (pow_pos (p + p)) (room 28 n);
      })
    where
      upper : (q s x w y t : ℕ) → q ≤ x + 2 ^ 52 * y → x ≡ s + w → w < 2 ^ 81 * y → t ≡ 2 ^ 54 * (2 ^ 28 * y) → q + 0 + (0 + 0) < 0 + s + t
      upper q s x w y t a b c d = omega arith

      lower : (q s x w y t : ℕ) → x ≤ q + 2 ^ 52 * y → x ≡ s + w → 0 < y → t ≡ 2 ^ 54 * (2 ^ 28 * y) → 0 + s + (0 + 0) < q + 0 + t
      lower q s x w y t a b c d = omega arith

  low_part : Around ((a ⊖ h) ⊗ (a ⊕ h) ⊖ (a ⊗ a ⊖ h ⊗ h)) X (Q * l) (2 ^ 30 * Y)
  low_part =
      around_same ((a ⊖ h) ⊗ (a ⊕ h) ⊖ (a ⊗ a ⊖ h ⊗ h)) (X + (0 + S)) (S + (Q * l + 0)) (2 ^ 29 * Y + (0 + 0 + 2 ^ (28 + n)) + 2 ^ (1 + n)) X (Q * l) (2 ^ 30 * Y)
      (same X S (Q * l)) (errors Y (2 ^ (28 + n)) (2 ^ (1 + n)) (pow-add 2 28 n) (pow-add 2 1 n))
      (difference_around ((a ⊖ h) ⊗ (a ⊕ h)) (a ⊗ a ⊖ h ⊗ h) X S (2 ^ 29 * Y) (Q * l + 0) (0 + S) (0 + 0 + 2 ^ (28 + n)) (1 + n) product second
      (record {
        low = (in_range 1 (lib.Dec.lit≤ tt)).0;
        high = (in_range 1 (lib.Dec.lit≤ tt)).1;
        upper = upper (Q * l) S X Y (2 ^ (28 + n)) (2 ^ (54 + (1 + n))) square-lower (pow_pos (p + p)) (pow-add 2 28 n) (room 1 n);
        lower = lower (Q * l) S X Y (2 ^ (28 + n)) (2 ^ (54 + (1 + n))) square-upper (pow_pos (p + p)) (pow-add 2 28 n) (room 1 n);
      }))
    where
      same : (x s q : ℕ) → x + (0 + s) + q ≡ x + (s + (q + 0))
      same x s q = omega arith

      errors : (y e f : ℕ) → e ≡ 2 ^ 28 * y → f ≡ 2 ^ 1 * y → 2 ^ 29 * y + (0 + 0 + e) + f ≤ 2 ^ 30 * y
      errors y e f a b = omega arith

      upper : (q s x y e t : ℕ) → x ≤ q + 2 ^ 52 * y → 0 < y → e ≡ 2 ^ 28 * y → t ≡ 2 ^ 54 * (2 ^ 1 * y) → x + (0 + s) + (2 ^ 29 * y + (0 + 0 + e)) < s + (q + 0) + t
      upper q s x y e t a b c d = omega arith

      lower : (q s x y e t : ℕ) → q ≤ x + 2 ^ 52 * y → 0 < y → e ≡ 2 ^ 28 * y → t ≡ 2 ^ 54 * (2 ^ 1 * y) → s + (q + 0) + (2 ^ 29 * y + (0 + 0 + e)) < x + (0 + s) + t
      lower q s x y e t a b c d = omega arith

  pub square_residual_lem : Residual a h (m * 2 ^ p * (m * 2 ^ p)) (2 ^ (p + p))
  square_residual_lem = record { Q = Q; value = square.value; upper = square-upper; lower = square-lower; low = low_part }
