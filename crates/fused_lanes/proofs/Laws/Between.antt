-- The rounding test: what lies between two numbers that are rounded to one value is rounded to it too (`between`), since rounding keeps the order. And the last
-- sum of the test, which has no minus sign (`last_sum`).
use mathlib.Core.Path.{◌≡◌, refl, sym, ap, ◌∙◌, subst}
use mathlib.Core.Bool.{Bool, true, false}
use Prim.Native.Nat.{ℕ, ◌+◌, ◌*◌, ◌^◌, ◌≤◌, ◌<◌}
use native.Mathlib.Nat.{le_refl, le_trans, le_antisymm, lt_of_le_of_lt, mul-le-mul_right, le_of_mul-le-mul_right}
use native.Mathlib.Omega.{arith}
use lib.Dec.{T}
use lib.Pow.{pow_pos}
use lib.Ieee.{Float, binary64, fits, round, le, of_bits}
use lib.Ieee.Bits.{of_bits-to_bits}
use lib.Ieee.Exact.{HasValue}
use lib.Ieee.Fits.{round-fits}
use lib.Ieee.Order.{round_mono}
use lib.Ieee.Positive.{positive, positive_of_value, values_of_le}
use Rattle.binary64.specs.Binary64.{◌⊕◌}
use Rattle.binary64.proofs.Pack.{value-bits}
use Rattle.binary64.specs.Nearest.{den, RoundedOnce}
use Rattle.binary64.proofs.Once.{sum_once}
use Rattle.binary64.proofs.Values.{add-units}
use Rattle.fused_lanes.proofs.Laws.Rounded.{Rounded, rounded, place_top}
use Rattle.fused_lanes.proofs.Laws.Around.{plus, minus, Apart, Around}
use Rattle.binary64.specs.Format.{lowest}

-- two values of one sign and size are one
same-value : (x y : Float) (s : Bool) (n : ℕ) → T (fits binary64 x) → T (fits binary64 y) → HasValue x s n (2 ^ lowest) → HasValue y s n (2 ^ lowest) → x ≡ y
same-value x y s n F G X Y =
    sym (of_bits-to_bits binary64 x F) ∙ ap (of_bits binary64) (value-bits binary64 x s n X ∙ sym (value-bits binary64 y s n Y)) ∙ of_bits-to_bits binary64 y G

module _ (v w x i : ℕ) (lo : lowest ≤ i) (hi : i ≤ place_top) (some : 2 ^ i < v) (first : v ≤ w) (second : w ≤ x) (small : x < 2 ^ (54 + i)) where
  abbrev R : ℕ → Float
  R n = round binary64 false n den

  at : (n : ℕ) → n ≤ x → Rounded (R n) false n i
  at n h = rounded n i lo hi (lt_of_le_of_lt h small) false

  whole : v ≤ x
  whole = le_trans first second

  first-rounded : Rounded (R v) false v i
  first-rounded = at v whole

  middle-rounded : Rounded (R w) false w i
  middle-rounded = at w second

  last-rounded : Rounded (R x) false x i
  last-rounded = at x (le_refl x)

  above : (n : ℕ) → v ≤ n → (k : Rounded (R n) false n i) → T (positive (R n))
  above n h k = positive_of_value (R n) k.units (2 ^ lowest) k.value (lib.Ieee.Positive.first_pos k.units (2 ^ lowest) (over v n (k.units * 2 ^ lowest) (2 ^ i) some h k.lower))
    where
      over : (v n u e : ℕ) → e < v → v ≤ n → n ≤ u + e → 0 < u
      over v n u e a b c = omega arith

  order : (m n : ℕ) → v ≤ m → v ≤ n → (j : Rounded (R m) false m i) (k : Rounded (R n) false n i) → T (le (R m) (R n)) → j.units ≤ k.units
  order m n h g j k t =
      le_of_mul-le-mul_right (values_of_le (R m) (R n) j.units (2 ^ lowest) k.units (2 ^ lowest) (above m h j) (above n g k) j.value k.value t) (pow_pos lowest)

  rising : (m n : ℕ) → m ≤ n → T (le (R m) (R n))
  rising m n h = round_mono binary64 m den n den (pow_pos (lowest + lowest)) (pow_pos (lowest + lowest)) (mul-le-mul_right den h)

  pub between : T (le (round binary64 false x den) (round binary64 false v den)) → round binary64 false x den ≡ round binary64 false w den
  between t =
      same-value (R x) (R w) false last-rounded.units (round-fits binary64 false x den) (round-fits binary64 false w den) last-rounded.value
      (subst (λ (n : ℕ). HasValue (R w) false n (2 ^ lowest)) (le_antisymm (order w x first whole middle-rounded last-rounded (rising w x second)) back) middle-rounded.value)
    where
      back : last-rounded.units ≤ middle-rounded.units
      back = le_trans (order x v whole (le_refl v) last-rounded first-rounded t) (order v w (le_refl v) first first-rounded middle-rounded (rising v w first))

-- ---- the last sum

-- s is S of the smallest values, and f around P − N
pub record LastSum (r : Float) (S P N d : ℕ) : Type 0 where
  pub size : ℕ
  pub is : r ≡ round binary64 false size den
  pub upper : size + N ≤ S * 2 ^ lowest + P + d
  pub lower : S * 2 ^ lowest + P ≤ size + N + d

pub last_sum : (s f : Float) (S P N d : ℕ) → HasValue s false S (2 ^ lowest) → Around f P N d → 0 < S * 2 ^ lowest → N + d < P + S * 2 ^ lowest → LastSum (s ⊕ f) S P N d
last_sum s f S P N d held F some h =
    go F.negative F.near
    (subst (λ (r : Float). RoundedOnce r false (S * 2 ^ lowest) F.negative (F.units * 2 ^ lowest) den)
    (sym (add-units s f false F.negative S F.units (S * 2 ^ lowest) (F.units * 2 ^ lowest) held F.value refl refl))
    (sum_once false F.negative (S * 2 ^ lowest) (F.units * 2 ^ lowest) den))
  where
    never : (v a p n P N d : ℕ) → 0 + (0 + n) ≡ v + (a + p) → P + n ≤ p + N + d → N + d < P + a → p ≡ 0 → ⊥
    never v a p n P N d e g h z = omega arith

    never_plus : (v a p : ℕ) → 0 + (0 + 0) ≡ v + (a + p) → 0 < a → ⊥
    never_plus v a p e h = omega arith

    above : (v a p n P N d : ℕ) → v + (0 + n) ≡ 0 + (a + p) → p + N ≤ P + n + d → v + N ≤ a + P + d
    above v a p n P N d e g = omega arith

    below : (v a p n P N d : ℕ) → v + (0 + n) ≡ 0 + (a + p) → P + n ≤ p + N + d → a + P ≤ v + N + d
    below v a p n P N d e g = omega arith

    a : ℕ
    a = S * 2 ^ lowest

    u : ℕ
    u = F.units * 2 ^ lowest

    made : (t o : Bool) (v : ℕ) → Apart (plus t u) (minus t u) P N d → plus o v + (0 + minus t u) ≡ minus o v + (a + plus t u) → (s ⊕ f) ≡ round binary64 o v den → LastSum (s ⊕ f) S P N d
    made true true v g e q = absurd (never v a 0 u P N d e g.1 h refl)
    made false true v g e q = absurd (never_plus v a u e some)
    made t false v g e q = record { size = v; is = q; upper = above v a (plus t u) (minus t u) P N d e g.0; lower = below v a (plus t u) (minus t u) P N d e g.1 }

    go : (t : Bool) → Apart (plus t u) (minus t u) P N d → RoundedOnce (s ⊕ f) false a t u den → LastSum (s ⊕ f) S P N d
    go t g o = made t o.negative o.size g o.exact o.rounded
