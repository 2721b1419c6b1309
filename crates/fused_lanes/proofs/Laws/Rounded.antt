-- One rounding, with its error as a power of two. Everything is over 2 ^ 2148: a value is a whole number of 2 ^ 1074 of these units, a product of two values
-- any number of them. What lies below 2 ^ (54 + i) is rounded by 2 ^ i at most (`rounded`, by binary64's `grid_near`).
use mathlib.Core.Path.{◌≡◌, sym, ap, ◌∙◌, subst}
use mathlib.Core.Bool.{Bool}
use Prim.Native.Nat.{ℕ, ◌+◌, ◌-◌, ◌*◌, ◌/◌, ◌^◌, ◌≤◌, ◌<◌}
use native.Mathlib.Nat.{le_trans, le_of_eq, le_antisymm, lt_of_lt_of_le, mul_comm, mul_assoc, mul-le-mul_right, lt_of_mul-lt-mul_right, le-div_iff_mul-le, mul-div-mul_right}
use native.Mathlib.Omega.{arith}
use lib.Pow.{pow-add, pow_pos, pow_mono, shr_lt, shl-shr}
use lib.Ieee.{Float, binary64, size, round}
use lib.Ieee.Digits.{size-le}
use lib.Ieee.Exact.{HasValue}
use lib.Ieee.Order.{drop, kept}
use lib.Ieee.Scale.{grid}
use Rattle.binary64.specs.Nearest.{Near, den}
use Rattle.binary64.proofs.Nearest.{grid_near, round_value, near_cancel}
use Rattle.binary64.proofs.Bounded.{grid_le, grid_ge}
use Rattle.binary64.proofs.Size.{size_over}
use Rattle.binary64.specs.Format.{lowest, magnitude_digits}

-- r is ±v, rounded
pub record Rounded (r : Float) (s : Bool) (v i : ℕ) : Type 0 where
  pub units : ℕ
  pub value : HasValue r s units (2 ^ lowest)
  pub upper : units * 2 ^ lowest ≤ v + 2 ^ i
  pub lower : v ≤ units * 2 ^ lowest + 2 ^ i
  -- no value of 53 digits is passed
  pub most : (m j : ℕ) → m < 2 ^ 53 → v ≤ m * 2 ^ j * 2 ^ lowest → units ≤ m * 2 ^ j
  pub least : (m j : ℕ) → m < 2 ^ 53 → m * 2 ^ j * 2 ^ lowest ≤ v → m * 2 ^ j ≤ units
  -- where v has 53 digits down to 2 ^ j, the result is a multiple of 2 ^ j
  pub whole : (j : ℕ) → 2 ^ (52 + j) * 2 ^ lowest ≤ v → units / 2 ^ j * 2 ^ j ≡ units

half : (x v u w : ℕ) → Near x v u → u ≤ w * 2 → (x ≤ v + w) × (v ≤ x + w)
half x v u w h k = omega arith

-- what is rounded is at most doubled
pub stays_under : (u v i : ℕ) → u ≤ v + 2 ^ i → v < 2 ^ (54 + i) → u < 2 ^ (1 + (54 + i))
stays_under u v i h k =
    lt_of_lt_of_le (twice u v (2 ^ i) (2 ^ (54 + i)) h k (pow_mono (more i))) (le_of_eq (sym (pow-add 2 1 (54 + i))))
  where
    twice : (u v e w : ℕ) → u ≤ v + e → v < w → e ≤ w → u < 2 * w
    twice u v e w a b c = omega arith

    more : (i : ℕ) → i ≤ 54 + i
    more i = omega arith

-- up to this place nothing is rounded to an infinity
abbrev pub place_top : ℕ
place_top = 3000

-- n over 2 ^ 1074 is n * 2 ^ 1074 over 2 ^ 2148
pub wide : (n : ℕ) → n * 2 ^ lowest * 2 ^ lowest ≡ n * den
wide n = mul_assoc n (2 ^ lowest) (2 ^ lowest) ∙ ap (λ (x : ℕ). n * x) (sym (pow-add 2 lowest lowest))

module _ (v i : ℕ) (lo : lowest ≤ i) (hi : i ≤ place_top) (small : v < 2 ^ (54 + i)) where
  abbrev g : ℕ
  g = grid binary64 v den

  abbrev k : ℕ
  k = drop 53 (v * 2 ^ lowest) den

  place : k ≡ size (v / 2 ^ lowest) - 53
  place = ap (λ (x : ℕ). size x - 53) (mul-div-mul_right v (2 ^ lowest) (pow_pos lowest))

  place-le : k + lowest ≤ i + 1
  place-le =
      subst (λ (x : ℕ). x + lowest ≤ i + 1) (sym place)
      (less (size (v / 2 ^ lowest)) i lo (size-le (v / 2 ^ lowest) (54 + i - lowest) (shr_lt (54 + i - lowest) lowest (subst (λ (x : ℕ). v < 2 ^ x) (back i lo) small))))
    where
      back : (i : ℕ) → lowest ≤ i → 54 + i ≡ 54 + i - lowest + lowest
      back i h = omega arith

      less : (z i : ℕ) → lowest ≤ i → z ≤ 54 + i - lowest → z - 53 + lowest ≤ i + 1
      less z i l h = omega arith

  near : Near (g * 2 ^ lowest) v (2 ^ k * 2 ^ lowest)
  near =
      near_cancel (g * 2 ^ lowest) v (2 ^ k * 2 ^ lowest) (2 ^ lowest) (pow_pos lowest)
      (subst (λ (x : ℕ). Near x (v * 2 ^ lowest) (2 ^ k * 2 ^ lowest * 2 ^ lowest)) (sym (wide g))
      (subst (λ (x : ℕ). Near (g * den) (v * 2 ^ lowest) x) (mul_comm den (2 ^ k) ∙ sym (wide (2 ^ k))) (grid_near binary64 v den (pow_pos (lowest + lowest)))))

  both : (g * 2 ^ lowest ≤ v + 2 ^ i) × (v ≤ g * 2 ^ lowest + 2 ^ i)
  both =
      half (g * 2 ^ lowest) v (2 ^ k * 2 ^ lowest) (2 ^ i) near
      (le_trans (le_of_eq (sym (pow-add 2 k lowest))) (le_trans (pow_mono place-le) (le_of_eq (pow-add 2 i 1))))

  fine : g < 2 ^ magnitude_digits
  fine =
      lt_of_mul-lt-mul_right (2 ^ lowest)
      (lt_of_lt_of_le (stays_under (g * 2 ^ lowest) v i both.0 small) (le_trans (pow_mono (room i hi)) (le_of_eq (pow-add 2 magnitude_digits lowest))))
    where
      room : (i : ℕ) → i ≤ place_top → 1 + (54 + i) ≤ magnitude_digits + lowest
      room i h = omega arith

  most_of : (m j : ℕ) → m < 2 ^ 53 → v ≤ m * 2 ^ j * 2 ^ lowest → g ≤ m * 2 ^ j
  most_of m j M h = grid_le binary64 v den m j (pow_pos (lowest + lowest)) M (le_trans (mul-le-mul_right (2 ^ lowest) h) (le_of_eq (wide (m * 2 ^ j))))

  least_of : (m j : ℕ) → m < 2 ^ 53 → m * 2 ^ j * 2 ^ lowest ≤ v → m * 2 ^ j ≤ g
  least_of m j M h = grid_ge binary64 v den m j (pow_pos (lowest + lowest)) M (le_trans (le_of_eq (sym (wide (m * 2 ^ j)))) (mul-le-mul_right (2 ^ lowest) h))

  whole_of : (j : ℕ) → 2 ^ (52 + j) * 2 ^ lowest ≤ v → g / 2 ^ j * 2 ^ j ≡ g
  whole_of j h =
      subst (λ (x : ℕ). x / 2 ^ j * 2 ^ j ≡ x) (sym parts) (ap (λ (x : ℕ). x * 2 ^ j) (shl-shr (kept 53 (v * 2 ^ lowest) den * 2 ^ (k - j)) j))
    where
      split : (z j : ℕ) → 52 + j < z → z - 53 ≡ z - 53 - j + j
      split z j h = omega arith

      apart : k ≡ k - j + j
      apart = subst (λ (x : ℕ). x ≡ x - j + j) (sym place) (split (size (v / 2 ^ lowest)) j (size_over (v / 2 ^ lowest) (52 + j) ((le-div_iff_mul-le (pow_pos lowest)).1 h)))

      parts : g ≡ kept 53 (v * 2 ^ lowest) den * 2 ^ (k - j) * 2 ^ j
      parts =
          ap (λ (x : ℕ). kept 53 (v * 2 ^ lowest) den * x) (ap (λ (x : ℕ). 2 ^ x) apart ∙ pow-add 2 (k - j) j)
          ∙ sym (mul_assoc (kept 53 (v * 2 ^ lowest) den) (2 ^ (k - j)) (2 ^ j))

  pub rounded : (s : Bool) → Rounded (round binary64 s v den) s v i
  rounded s =
      record { units = g; value = round_value binary64 s v den fine; upper = both.0; lower = both.1; most = most_of; least = least_of; whole = whole_of }

-- a number of 53 digits stays what it is
pub exact : (r : Float) (s : Bool) (v i m j : ℕ) → Rounded r s v i → m < 2 ^ 53 → v ≡ m * 2 ^ j * 2 ^ lowest → HasValue r s (m * 2 ^ j) (2 ^ lowest)
exact r s v i m j h M e =
    subst (λ (n : ℕ). HasValue r s n (2 ^ lowest)) (le_antisymm (h.most m j M (le_of_eq e)) (h.least m j M (le_of_eq (sym e)))) h.value
