-- The margin is wider than all errors together. Everything is measured in 2 ^ t, of which the rounded sum s has 2 ^ 113 to 2 ^ 114: the residual `low` of the square
-- errs by 2 ^ 41 at most, the tail of the sum and the roundings after it by 2 ^ 12, and the margin u is 2 ^ 42 or more. So the exact sum lies between the two
-- that are rounded last (`margin`).
use mathlib.Core.Path.{◌≡◌, sym, ap, ◌∙◌, subst}
use mathlib.Core.Bool.{false}
use Prim.Native.Nat.{ℕ, ◌+◌, ◌*◌, ◌^◌, ◌≤◌, ◌<◌, ◌-◌}
use native.Mathlib.Nat.{le_trans, le_of_eq, lt_of_le_of_lt, lt_of_lt_of_le, mul_assoc, le_of_mul-le-mul_right, lt_of_mul-lt-mul_right}
use native.Mathlib.Omega.{arith}
use lib.Dec.{T}
use lib.Pow.{pow-add, pow_pos, pow_mono}
use lib.Ieee.{Float, binary64, round, le}
use lib.Ieee.Exact.{HasValue}
use Rattle.binary64.specs.Binary64.{◌⊕◌, ◌⊖◌, ◌⊗◌}
use Rattle.binary64.specs.Nearest.{den}
use Rattle.fused_lanes.proofs.Laws.Rounded.{Rounded, stays_under, rounded, place_top}
use Rattle.fused_lanes.proofs.Laws.Around.{Around, of_value, around_same, sum_around, difference_around, times_round}
use Rattle.fused_lanes.proofs.Laws.Square.{room}
use Rattle.fused_lanes.proofs.Laws.Between.{LastSum, last_sum, between}
use Rattle.binary64.specs.Format.{lowest}

-- ---- numbers

-- x: a * a; q, z: the two terms; s: their rounded sum; k: the error of q; j: that of `low`
pub record Sizes (x q z s k j y : ℕ) : Type 0 where
  pub some : 0 < y
  pub upper : x ≤ q + k
  pub lower : q ≤ x + k
  pub above : s ≤ q + z + 2 ^ 60 * y
  pub below : q + z ≤ s + 2 ^ 60 * y
  pub large : 2 ^ 66 * y ≤ q + z
  pub square : k ≤ 2 ^ 63 * y
  pub residual : j ≤ 2 ^ 41 * y

-- u: the margin
pub record Margin (u y : ℕ) : Type 0 where
  pub wide : 2 ^ 42 * y ≤ u + y
  pub narrow : u ≤ 2 ^ 45 * y + y

abbrev error : ℕ → ℕ
error y = 2 ^ 41 * y + 2 ^ 11 * y

module _ (x q z s k j y : ℕ) (n : Sizes x q z s k j y) where
  residual_upper : (w : ℕ) → w ≡ 2 ^ 54 * (2 ^ 10 * y) → x + (q + z) + (j + 2 ^ 7 * y) < q + s + w
  residual_upper w e = omega arith

  residual_lower : (w : ℕ) → w ≡ 2 ^ 54 * (2 ^ 10 * y) → q + s + (j + 2 ^ 7 * y) < x + (q + z) + w
  residual_lower w e = omega arith

  residual_same : x + (q + z) + s ≡ x + z + (q + s)
  residual_same = omega arith

  residual_error : (e : ℕ) → e ≡ 2 ^ 10 * y → j + 2 ^ 7 * y + e ≤ error y
  residual_error e h = omega arith

-- the same in units b of 2 ^ 46 * y, with the margin u, the error e before the last differences and theirs, f
record Coarse (x q z s k u e f b : ℕ) : Type 0 where
  some : 0 < b
  upper : x ≤ q + k
  lower : q ≤ x + k
  above : s ≤ q + z + 2 ^ 14 * b
  below : q + z ≤ s + 2 ^ 14 * b
  large : 2 ^ 20 * b ≤ q + z
  square : k ≤ 2 ^ 17 * b
  narrow : u ≤ b
  first : e ≤ b
  second : f ≤ b

coarse : (x q z s k j u f y : ℕ) → Sizes x q z s k j y → Margin u y → f ≡ 2 ^ 11 * y → Coarse x q z s k u (error y) f (2 ^ 46 * y)
coarse x q z s k j u f y n m h =
    record {
      some = some y n.some;
      upper = n.upper;
      lower = n.lower;
      above = up s (q + z) y n.above;
      below = up (q + z) s y n.below;
      large = large (q + z) y n.large;
      square = square k y n.square;
      narrow = narrow u y m.narrow;
      first = first y;
      second = second f y h;
    }
  where
    some : (y : ℕ) → 0 < y → 0 < 2 ^ 46 * y
    some y h = omega arith

    up : (s v y : ℕ) → s ≤ v + 2 ^ 60 * y → s ≤ v + 2 ^ 14 * (2 ^ 46 * y)
    up s v y h = omega arith

    large : (v y : ℕ) → 2 ^ 66 * y ≤ v → 2 ^ 20 * (2 ^ 46 * y) ≤ v
    large v y h = omega arith

    square : (k y : ℕ) → k ≤ 2 ^ 63 * y → k ≤ 2 ^ 17 * (2 ^ 46 * y)
    square k y h = omega arith

    narrow : (u y : ℕ) → u ≤ 2 ^ 45 * y + y → u ≤ 2 ^ 46 * y
    narrow u y h = omega arith

    first : (y : ℕ) → error y ≤ 2 ^ 46 * y
    first y = omega arith

    second : (f y : ℕ) → f ≡ 2 ^ 11 * y → f ≤ 2 ^ 46 * y
    second f y h = omega arith

module _ (x q z s k u e f b : ℕ) (n : Coarse x q z s k u e f b) where
  low-upper : (w : ℕ) → w ≡ 2 ^ 19 * b → x + z + 0 + (e + 0) < s + u + w
  low-upper w h = omega arith

  low-lower : (w : ℕ) → w ≡ 2 ^ 19 * b → s + u + (e + 0) < x + z + 0 + w
  low-lower w h = omega arith

  high-upper : (w : ℕ) → w ≡ 2 ^ 19 * b → x + z + u + (e + 0) < s + 0 + w
  high-upper w h = omega arith

  high-lower : (w : ℕ) → w ≡ 2 ^ 19 * b → s + 0 + (e + 0) < x + z + u + w
  high-lower w h = omega arith

  -- the last sums have no minus sign
  low-plus : s + u + (e + 0 + f) < x + z + 0 + s
  low-plus = omega arith

  high-plus : s + 0 + (e + 0 + f) < x + z + u + s
  high-plus = omega arith

  s_some : 0 < s
  s_some = omega arith

  -- v and w: the exact sums that are rounded last
  first_some : (v g : ℕ) → g ≡ 2 ^ 15 * b → s + (x + z + 0) ≤ v + (s + u) + (e + 0 + f) → g < v
  first_some v g h i = omega arith

  second-small : (w g : ℕ) → q + z < g → 2 ^ 18 * b ≤ g → w + (s + 0) ≤ s + (x + z + u) + (e + 0 + f) → w < 2 * g
  second-small w g h i j = omega arith

-- the exact sum lies between them
first_under : (v s x z u f y : ℕ) → Margin u y → 0 < y → f ≡ 2 ^ 11 * y → v + (s + u) ≤ s + (x + z + 0) + (error y + 0 + f) → v ≤ x + z
first_under v s x z u f y m some h g = omega arith

second_over : (w s x z u f y : ℕ) → Margin u y → 0 < y → f ≡ 2 ^ 11 * y → s + (x + z + u) ≤ w + (s + 0) + (error y + 0 + f) → x + z ≤ w
second_over w s x z u f y m some h g = omega arith

-- ---- floats

-- s is S of the smallest values, c is 2 ^ -70
module _ (low tail s c : Float) (X J Q Z S t : ℕ) (lo : lowest ≤ t) (hi : t ≤ (place_top - 100)) (held : HasValue s false S (2 ^ lowest)) (unit : HasValue c false (2 ^ (lowest - 70)) (2 ^ lowest))
    (n : Sizes X (Q * 2 ^ lowest) (Z * 2 ^ lowest) (S * 2 ^ lowest) (2 ^ 22 * J) J (2 ^ t)) (most : Q * 2 ^ lowest + Z * 2 ^ lowest < 2 ^ (54 + (60 + t)))
    (least : 2 ^ (53 + (60 + t)) ≤ Q * 2 ^ lowest + Z * 2 ^ lowest) (A : Around low X (Q * 2 ^ lowest) J)
    (B : Around tail (Q * 2 ^ lowest + Z * 2 ^ lowest) (S * 2 ^ lowest) (2 ^ 7 * 2 ^ t)) where
  abbrev q : ℕ
  q = Q * 2 ^ lowest

  abbrev z : ℕ
  z = Z * 2 ^ lowest

  abbrev σ : ℕ
  σ = S * 2 ^ lowest

  abbrev k : ℕ
  k = 2 ^ 22 * J

  abbrev y : ℕ
  y = 2 ^ t

  in_range : (i : ℕ) → i ≤ 100 → (lowest ≤ i + t) × (i + t ≤ place_top)
  in_range i h = go i t h lo hi
    where
      go : (i t : ℕ) → i ≤ 100 → lowest ≤ t → t ≤ (place_top - 100) → (lowest ≤ i + t) × (i + t ≤ place_top)
      go i t a b c = omega arith

  -- the residual of the square and of the sum
  both : Around (low ⊕ tail) (X + z) σ (error y)
  both =
      around_same (low ⊕ tail) (X + (q + z)) (q + σ) (J + 2 ^ 7 * y + 2 ^ (10 + t)) (X + z) σ (error y) (residual_same X q z σ k J y n)
      (residual_error X q z σ k J y n (2 ^ (10 + t)) (pow-add 2 10 t))
      (sum_around low tail X q J (q + z) σ (2 ^ 7 * y) (10 + t) A B
      (record {
        low = (in_range 10 (lib.Dec.lit≤ tt)).0;
        high = (in_range 10 (lib.Dec.lit≤ tt)).1;
        upper = residual_upper X q z σ k J y n (2 ^ (54 + (10 + t))) (room 10 t);
        lower = residual_lower X q z σ k J y n (2 ^ (54 + (10 + t))) (room 10 t);
      }))

  -- ---- the margin

  abbrev w : ℕ
  w = S * 2 ^ (lowest - 70)

  scaled : w * 2 ^ 70 ≡ σ
  scaled = mul_assoc S (2 ^ (lowest - 70)) (2 ^ 70)

  -- 2 ^ (114 + t)
  abbrev g : ℕ
  g = 2 ^ (54 + (60 + t))

  s_under : σ < 2 ^ (1 + (54 + (60 + t)))
  s_under = stays_under σ (q + z) (60 + t) (le_trans n.above (le_of_eq (ap (λ (x : ℕ). q + z + x) (sym (pow-add 2 60 t))))) most

  s_over : 2 ^ (52 + (60 + t)) ≤ σ
  s_over =
      over σ (q + z) (2 ^ 60 * y) (2 ^ (52 + (60 + t))) (2 ^ (53 + (60 + t))) least n.below (ap (λ (x : ℕ). 2 ^ x) (next t) ∙ pow-add 2 1 (52 + (60 + t)))
      (le_trans (le_of_eq (sym (pow-add 2 60 t))) (pow_mono (more t)))
    where
      over : (s v e h f : ℕ) → f ≤ v → v ≤ s + e → f ≡ 2 ^ 1 * h → e ≤ h → h ≤ s
      over s v e h f a b c d = omega arith

      next : (t : ℕ) → 53 + (60 + t) ≡ 1 + (52 + (60 + t))
      next t = omega arith

      more : (t : ℕ) → 60 + t ≤ 52 + (60 + t)
      more t = omega arith

  w_under : w < 2 ^ (45 + t)
  w_under =
      lt_of_mul-lt-mul_right (2 ^ 70)
      (lt_of_le_of_lt (le_of_eq scaled) (lt_of_lt_of_le s_under (le_of_eq (ap (λ (x : ℕ). 2 ^ x) (same t) ∙ pow-add 2 (45 + t) 70))))
    where
      same : (t : ℕ) → 1 + (54 + (60 + t)) ≡ 45 + t + 70
      same t = omega arith

  w_over : 2 ^ (42 + t) ≤ w
  w_over =
      le_of_mul-le-mul_right (le_trans (le_of_eq (sym (pow-add 2 (42 + t) 70) ∙ ap (λ (x : ℕ). 2 ^ x) (same t))) (le_trans s_over (le_of_eq (sym scaled)))) (pow_pos 70)
    where
      same : (t : ℕ) → 42 + t + 70 ≡ 52 + (60 + t)
      same t = omega arith

  u : Rounded (s ⊗ c) false w t
  u = subst (λ (x : Float). Rounded x false w t) (sym (times_round s c false false S (2 ^ (lowest - 70)) held unit))
      (rounded w t lo (high t hi) (lt_of_lt_of_le w_under (pow_mono (more t))) false)
    where
      high : (t : ℕ) → t ≤ (place_top - 100) → t ≤ place_top
      high t h = omega arith

      more : (t : ℕ) → 45 + t ≤ 54 + t
      more t = omega arith

  abbrev υ : ℕ
  υ = u.units * 2 ^ lowest

  m : Margin υ y
  m =
      record {
        wide = le_trans (le_of_eq (sym (pow-add 2 42 t))) (le_trans w_over u.lower);
        narrow = narrow υ w y (2 ^ (45 + t)) u.upper w_under (pow-add 2 45 t);
      }
    where
      narrow : (u w y e : ℕ) → u ≤ w + y → w < e → e ≡ 2 ^ 45 * y → u ≤ 2 ^ 45 * y + y
      narrow u w y e a b c = omega arith

  abbrev f : ℕ
  f = 2 ^ (11 + t)

  abbrev b : ℕ
  b = 2 ^ 46 * 2 ^ t

  C : Coarse X q z σ k υ (error y) f b
  C = coarse X q z σ k J υ f y n m (pow-add 2 11 t)

  room_11 : 2 ^ (54 + (11 + t)) ≡ 2 ^ 19 * b
  room_11 = room 11 t ∙ same y
    where
      same : (y : ℕ) → 2 ^ 54 * (2 ^ 11 * y) ≡ 2 ^ 19 * (2 ^ 46 * y)
      same y = omega arith

  -- ---- the last sums

  less : LastSum (s ⊕ (low ⊕ tail ⊖ s ⊗ c)) S (X + z + 0) (σ + υ) (error y + 0 + f)
  less =
      last_sum s (low ⊕ tail ⊖ s ⊗ c) S (X + z + 0) (σ + υ) (error y + 0 + f) held
      (difference_around (low ⊕ tail) (s ⊗ c) (X + z) σ (error y) υ 0 0 (11 + t) both (of_value (s ⊗ c) u.units u.value)
      (record {
        low = (in_range 11 (lib.Dec.lit≤ tt)).0;
        high = (in_range 11 (lib.Dec.lit≤ tt)).1;
        upper = low-upper X q z σ k υ (error y) f b C (2 ^ (54 + (11 + t))) room_11;
        lower = low-lower X q z σ k υ (error y) f b C (2 ^ (54 + (11 + t))) room_11;
      }))
      (s_some X q z σ k υ (error y) f b C) (low-plus X q z σ k υ (error y) f b C)

  more : LastSum (s ⊕ (low ⊕ tail ⊕ s ⊗ c)) S (X + z + υ) (σ + 0) (error y + 0 + f)
  more =
      last_sum s (low ⊕ tail ⊕ s ⊗ c) S (X + z + υ) (σ + 0) (error y + 0 + f) held
      (sum_around (low ⊕ tail) (s ⊗ c) (X + z) σ (error y) υ 0 0 (11 + t) both (of_value (s ⊗ c) u.units u.value)
      (record {
        low = (in_range 11 (lib.Dec.lit≤ tt)).0;
        high = (in_range 11 (lib.Dec.lit≤ tt)).1;
        upper = high-upper X q z σ k υ (error y) f b C (2 ^ (54 + (11 + t))) room_11;
        lower = high-lower X q z σ k υ (error y) f b C (2 ^ (54 + (11 + t))) room_11;
      }))
      (s_some X q z σ k υ (error y) f b C) (high-plus X q z σ k υ (error y) f b C)

  pub margin : T (le (s ⊕ (low ⊕ tail ⊕ s ⊗ c)) (s ⊕ (low ⊕ tail ⊖ s ⊗ c))) → s ⊕ (low ⊕ tail ⊕ s ⊗ c) ≡ round binary64 false (X + Z * 2 ^ lowest) den
  margin h =
      more.is
      ∙ between less.size (X + z) more.size (61 + t) (in_range 61 (lib.Dec.lit≤ tt)).0 (in_range 61 (lib.Dec.lit≤ tt)).1
      (first_some X q z σ k υ (error y) f b C less.size (2 ^ (61 + t)) (pow-add 2 61 t ∙ same y) less.lower)
      (first_under less.size σ X z υ f y m n.some (pow-add 2 11 t) less.upper)
      (second_over more.size σ X z υ f y m n.some (pow-add 2 11 t) more.lower)
      (lt_of_lt_of_le
      (second-small X q z σ k υ (error y) f b C more.size g most (le_trans (le_of_eq (up y ∙ sym (pow-add 2 64 t))) (pow_mono (place t))) more.upper)
      (le_of_eq (sym (pow-add 2 1 (54 + (60 + t))) ∙ ap (λ (x : ℕ). 2 ^ x) (next t))))
      (subst (λ (r : Float). T (le r (round binary64 false less.size den))) more.is
      (subst (λ (r : Float). T (le (s ⊕ (low ⊕ tail ⊕ s ⊗ c)) r)) less.is h))
    where
      same : (y : ℕ) → 2 ^ 61 * y ≡ 2 ^ 15 * (2 ^ 46 * y)
      same y = omega arith

      up : (y : ℕ) → 2 ^ 18 * (2 ^ 46 * y) ≡ 2 ^ 64 * y
      up y = omega arith

      place : (t : ℕ) → 64 + t ≤ 54 + (60 + t)
      place t = omega arith

      next : (t : ℕ) → 1 + (54 + (60 + t)) ≡ 54 + (61 + t)
      next t = omega arith
