-- How far a float is from a difference P − N of two exact numbers, over 2 ^ 2148: `Around f P N d`. A rounded sum or difference of two such floats is around
-- the exact one, by their errors and its own (`sum_around`, `difference_around`), whatever the signs are. Sums, differences and products without a minus sign
-- are one rounding (`plus_round`, `less_round`, `times_round`).
use mathlib.Core.Path.{◌≡◌, refl, sym, ap, ◌∙◌, subst}
use mathlib.Core.Logic.{◌⊎◌, inl, inr}
use mathlib.Core.Bool.{Bool, true, false, not, cond}
use Prim.Native.Nat.{ℕ, ◌+◌, ◌-◌, ◌*◌, ◌^◌, ◌≤◌, ◌<◌}
use native.Mathlib.Nat.{add-mul, mul-lt-mul_of_pos_right, eq-or-lt_of_le, zero-mul, sub_self}
use native.Mathlib.Omega.{arith}
use lib.Pow.{pow-add, pow_pos}
use lib.Ieee.{Float, binary64, unlike, round, sum}
use lib.Ieee.Exact.{HasValue}
use Rattle.binary64.specs.Binary64.{◌⊕◌, ◌⊖◌, ◌⊗◌}
use Rattle.binary64.specs.Nearest.{den, RoundedOnce}
use Rattle.binary64.proofs.Once.{sum_once}
use Rattle.binary64.proofs.Values.{add-units, sub-values, sum_same, product_round, sub-mul}
use Rattle.binary64.proofs.Sums.{sum_more, sum-none}
use Rattle.fused_lanes.proofs.Laws.Rounded.{Rounded, wide, rounded, place_top}
use Rattle.binary64.specs.Format.{lowest}

-- the two parts of ±n
abbrev pub plus : Bool → ℕ → ℕ
plus s n = cond s 0 n

abbrev pub minus : Bool → ℕ → ℕ
minus s n = cond s n 0

-- p − n and P − N differ by d at most
abbrev pub Apart : ℕ → ℕ → ℕ → ℕ → ℕ → Type 0
Apart p n P N d = (p + N ≤ P + n + d) × (P + n ≤ p + N + d)

pub record Around (f : Float) (P N d : ℕ) : Type 0 where
  pub negative : Bool
  pub units : ℕ
  pub value : HasValue f negative units (2 ^ lowest)
  pub near : Apart (plus negative (units * 2 ^ lowest)) (minus negative (units * 2 ^ lowest)) P N d

pub of_value : (f : Float) (n : ℕ) → HasValue f false n (2 ^ lowest) → Around f (n * 2 ^ lowest) 0 0
of_value f n h = record { negative = false; units = n; value = h; near = own (n * 2 ^ lowest) }
  where
    own : (x : ℕ) → Apart x 0 x 0 0
    own x = omega arith

pub around_same : (f : Float) (P N d P' N' d' : ℕ) → P + N' ≡ P' + N → d ≤ d' → Around f P N d → Around f P' N' d'
around_same f P N d P' N' d' e l h =
    record {
      negative = h.negative;
      units = h.units;
      value = h.value;
      near = move (plus h.negative (h.units * 2 ^ lowest)) (minus h.negative (h.units * 2 ^ lowest)) P N d P' N' d' e l h.near;
    }
  where
    move : (p n P N d P' N' d' : ℕ) → P + N' ≡ P' + N → d ≤ d' → Apart p n P N d → Apart p n P' N' d'
    move p n P N d P' N' d' e l h = omega arith

-- ---- sums

-- ±v is the exact sum of what two floats are: it is as small as the sum of what they are around
sum-small : (s : Bool) (v p n p' n' P N d P' N' d' w : ℕ) → plus s v + (n + n') ≡ minus s v + (p + p') → Apart p n P N d → Apart p' n' P' N' d'
    → P + P' + (d + d') < N + N' + w → N + N' + (d + d') < P + P' + w → v < w
sum-small true v p n p' n' P N d P' N' d' w e g h a b = omega arith
sum-small false v p n p' n' P N d P' N' d' w e g h a b = omega arith

-- and x, which differs from v by u, is around that sum
sum_near : (s : Bool) (v x u p n p' n' P N d P' N' d' : ℕ) → plus s v + (n + n') ≡ minus s v + (p + p') → Apart p n P N d → Apart p' n' P' N' d'
    → x ≤ v + u → v ≤ x + u → Apart (plus s x) (minus s x) (P + P') (N + N') (d + d' + u)
sum_near true v x u p n p' n' P N d P' N' d' e g h a b = omega arith
sum_near false v x u p n p' n' P N d P' N' d' e g h a b = omega arith

-- the exact sum lies between −2 ^ (54 + i) and 2 ^ (54 + i), errors included
pub record Small (P N d i : ℕ) : Type 0 where
  pub low : lowest ≤ i
  pub high : i ≤ place_top
  pub upper : P + d < N + 2 ^ (54 + i)
  pub lower : N + d < P + 2 ^ (54 + i)

once_around : (r : Float) (s t : Bool) (a b P N d P' N' d' i : ℕ) → RoundedOnce r s a t b den → Apart (plus s a) (minus s a) P N d
    → Apart (plus t b) (minus t b) P' N' d' → Small (P + P') (N + N') (d + d') i → Around r (P + P') (N + N') (d + d' + 2 ^ i)
once_around r s t a b P N d P' N' d' i o g h w =
    let v = o.size in
    let k : Rounded (round binary64 o.negative v den) o.negative v i =
    rounded v i w.low w.high
    (sum-small o.negative v (plus s a) (minus s a) (plus t b) (minus t b) P N d P' N' d' (2 ^ (54 + i)) o.exact g h w.upper w.lower) o.negative in
    record {
      negative = o.negative;
      units = k.units;
      value = subst (λ (x : Float). HasValue x o.negative k.units (2 ^ lowest)) (sym o.rounded) k.value;
      near =
          sum_near o.negative v (k.units * 2 ^ lowest) (2 ^ i) (plus s a) (minus s a) (plus t b) (minus t b) P N d P' N' d' o.exact g h k.upper k.lower;
    }

module _ (f g : Float) (P N d P' N' d' i : ℕ) (F : Around f P N d) (G : Around g P' N' d') where
  pub sum_around : Small (P + P') (N + N') (d + d') i → Around (f ⊕ g) (P + P') (N + N') (d + d' + 2 ^ i)
  sum_around w =
      let a = F.units * 2 ^ lowest in
      let b = G.units * 2 ^ lowest in
      once_around (f ⊕ g) F.negative G.negative a b P N d P' N' d' i
      (subst (λ (r : Float). RoundedOnce r F.negative a G.negative b den)
      (sym (add-units f g F.negative G.negative F.units G.units a b F.value G.value refl refl))
      (sum_once F.negative G.negative a b den)) F.near G.near w

-- ---- differences

sub-units : (x y : Float) (s t : Bool) (a b : ℕ) → HasValue x s a (2 ^ lowest) → HasValue y t b (2 ^ lowest)
    → x ⊖ y ≡ sum binary64 s (a * 2 ^ lowest) (not t) (b * 2 ^ lowest) den
sub-units x y s t a b X Y =
    sub-values x y s t a b (2 ^ lowest) (pow_pos lowest) X Y
    ∙ sum_same binary64 s (not t) a b (2 ^ lowest) (a * 2 ^ lowest) (b * 2 ^ lowest) den (pow_pos lowest) (pow_pos (lowest + lowest)) (sym (wide a)) (sym (wide b))

turned : (t : Bool) (b P N d : ℕ) → Apart (plus t b) (minus t b) P N d → Apart (plus (not t) b) (minus (not t) b) N P d
turned true b P N d h = omega arith
turned false b P N d h = omega arith

module _ (f g : Float) (P N d P' N' d' i : ℕ) (F : Around f P N d) (G : Around g P' N' d') where
  pub difference_around : Small (P + N') (N + P') (d + d') i → Around (f ⊖ g) (P + N') (N + P') (d + d' + 2 ^ i)
  difference_around w =
      let a = F.units * 2 ^ lowest in
      let b = G.units * 2 ^ lowest in
      once_around (f ⊖ g) F.negative (not G.negative) a b P N d N' P' d' i
      (subst (λ (r : Float). RoundedOnce r F.negative a (not G.negative) b den)
      (sym (sub-units f g F.negative G.negative F.units G.units F.value G.value))
      (sum_once F.negative (not G.negative) a b den)) F.near (turned G.negative b P' N' d' G.near) w

-- ---- without a minus sign

module _ (x y : Float) (a b : ℕ) (X : HasValue x false a (2 ^ lowest)) (Y : HasValue y false b (2 ^ lowest)) where
  pub plus_round : x ⊕ y ≡ round binary64 false ((a + b) * 2 ^ lowest) den
  unfolding sum
  plus_round =
      add-units x y false false a b (a * 2 ^ lowest) (b * 2 ^ lowest) X Y refl refl ∙ ap (λ (n : ℕ). round binary64 false n den) (sym (add-mul a b (2 ^ lowest)))

  pub less_round : b ≤ a → x ⊖ y ≡ round binary64 false ((a - b) * 2 ^ lowest) den
  less_round h = sub-units x y false false a b X Y ∙ go (eq-or-lt_of_le h)
    where
      go : (b ≡ a) ⊎ (b < a) → sum binary64 false (a * 2 ^ lowest) true (b * 2 ^ lowest) den ≡ round binary64 false ((a - b) * 2 ^ lowest) den
      go (inl e) =
          sum-none binary64 (a * 2 ^ lowest) (b * 2 ^ lowest) den false true refl (ap (λ (n : ℕ). n * 2 ^ lowest) (sym e))
          ∙ ap (λ (n : ℕ). round binary64 false n den) (sym (ap (λ (n : ℕ). n * 2 ^ lowest) (ap (λ (n : ℕ). a - n) e ∙ sub_self a) ∙ zero-mul (2 ^ lowest)))
      go (inr l) =
          sum_more binary64 (a * 2 ^ lowest) (b * 2 ^ lowest) den false true refl (mul-lt-mul_of_pos_right l (pow_pos lowest))
          ∙ ap (λ (n : ℕ). round binary64 false n den) (sym (sub-mul a b (2 ^ lowest)))

pub times_round : (x y : Float) (s t : Bool) (a b : ℕ) → HasValue x s a (2 ^ lowest) → HasValue y t b (2 ^ lowest)
    → x ⊗ y ≡ round binary64 (unlike s t) (a * b) den
times_round x y s t a b X Y =
    product_round x y s t a b (2 ^ lowest) (pow_pos lowest) X Y ∙ ap (λ (c : ℕ). round binary64 (unlike s t) (a * b) c) (sym (pow-add 2 lowest lowest))
