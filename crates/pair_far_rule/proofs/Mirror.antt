-- The distance of two points is the same either way: a − b and b − a are opposite or, where the difference is zero, both +0, and a square has no sign.
use mathlib.Core.Path.{◌≡◌, refl}
use mathlib.Core.Logic.{◌⊎◌, inl, inr}
use mathlib.Core.Bool.{Bool, true, false, not, cond, ◌&&◌}
use Prim.Native.Nat.{ℕ, zero, suc, ◌+◌, ◌-◌, ◌*◌, ◌^◌, ◌≤◌, ◌<◌}
use native.Mathlib.Nat.{mul_comm}
use native.Mathlib.Omega.{arith}
use lib.Dec.{T, ltb, ltb→lt, nltb→le}
use lib.Ieee.{Float, nan, inf, fin, Format, binary64, low, emax, prec, up, down, neg, odd, units, round, sum, add, sub, mul}
use Rattle.binary64.specs.Binary64.{◌⊖◌, ◌⊗◌, at}
use Rattle.ieee754.specs.Ieee754.{fma}
use Rattle.math.specs.Math.{Vec, dot3, norm3, sub3}

-- y is x or its opposite
abbrev Mirror : Float → Float → Type 0
Mirror x y = (y ≡ neg x) ⊎ (y ≡ x)

-- ---- rounding keeps apart sign and size
odd_turned : (d : ℕ) (s : Bool) (q k l : ℕ) → odd d (not s) q k l ≡ neg (odd d s q k l)
unfolding odd neg
odd_turned d s zero k l = refl
odd_turned d s (suc q) k l = refl

units-turned : (f : Format) (s : Bool) (q k : ℕ) → units f (not s) q k ≡ neg (units f s q k)
unfolding units
units-turned f s q k = go (ltb (q * 2 ^ k) (2 ^ (low f + suc (emax f))))
  where
    go : (b : Bool) → cond b (odd (suc (prec f)) (not s) q k (low f)) (inf (not s)) ≡ neg (cond b (odd (suc (prec f)) s q k (low f)) (inf s))
    go true = odd_turned (suc (prec f)) s q k (low f)
    go false = unfold neg in refl

round_turned : (f : Format) (s : Bool) (a c : ℕ) → round f (not s) a c ≡ neg (round f s a c)
unfolding round
round_turned f s a c = units-turned f s _ _

-- ---- the difference
-- ±(a − b) / c and ±(b − a) / d, as `sum` has them for two numbers of the sign s
module _ (f : Format) (a b c d : ℕ) (same : c ≡ d) where
  differ : (s less more : Bool) → (T less → a < b) → (T (not less) → b ≤ a) → (T more → b < a) → (T (not more) → a ≤ b)
      → Mirror (cond less (round f (not s) (b - a) c) (round f (s && more) (a - b) c)) (cond more (round f (not s) (a - b) d) (round f (s && less) (b - a) d))
  differ s true true p q r t = let h = p tt in let k = r tt in absurd (omega arith)
  differ true true false p q r t = inl (rw (← same) (round_turned f false (b - a) c))
  differ false true false p q r t = inl (rw (← same) (round_turned f true (b - a) c))
  differ true false true p q r t = inl (rw (← same) (round_turned f true (a - b) c))
  differ false false true p q r t = inl (rw (← same) (round_turned f false (a - b) c))
  differ s false false p q r t =
      let h = q tt in let k = t tt in
      let e : b - a ≡ 0 = omega arith in
      let e' : a - b ≡ 0 = omega arith in
      inr (rw (e, e', same))

  -- of one sign, and of two
  sum_mirror : (s t : Bool) → Mirror (sum f s a (not t) b c) (sum f t b (not s) a d)
  unfolding sum
  sum_mirror true true = differ true (ltb a b) (ltb b a) (ltb→lt a b) (nltb→le a b) (ltb→lt b a) (nltb→le b a)
  sum_mirror false false = differ false (ltb a b) (ltb b a) (ltb→lt a b) (nltb→le a b) (ltb→lt b a) (nltb→le b a)
  sum_mirror true false = let e : b + a ≡ a + b = omega arith in inl (rw (e, ← same) (round_turned f true (a + b) c))
  sum_mirror false true = let e : b + a ≡ a + b = omega arith in inl (rw (e, ← same) (round_turned f false (a + b) c))

sub_mirror : (x y : Float) → Mirror (x ⊖ y) (y ⊖ x)
unfolding sub add neg
sub_mirror nan nan = inr refl
sub_mirror nan (inf t) = inr refl
sub_mirror nan (fin t n d) = inr refl
sub_mirror (inf s) nan = inr refl
sub_mirror (inf true) (inf true) = inr refl
sub_mirror (inf true) (inf false) = inl refl
sub_mirror (inf false) (inf true) = inl refl
sub_mirror (inf false) (inf false) = inr refl
sub_mirror (inf s) (fin t n d) = inl refl
sub_mirror (fin s m e) nan = inr refl
sub_mirror (fin s m e) (inf true) = inl refl
sub_mirror (fin s m e) (inf false) = inl refl
sub_mirror (fin s m e) (fin t n d) = sum_mirror binary64 (m * up e * down d) (n * up d * down e) (down e * down d) (down d * down e) (mul_comm (down e) (down d)) s t

-- ---- the square
fma-turned : (x z : Float) → fma (neg x) (neg x) z ≡ fma x x z
unfolding fma neg mul
fma-turned nan z = refl
fma-turned (inf true) z = refl
fma-turned (inf false) z = refl
fma-turned (fin true m e) z = refl
fma-turned (fin false m e) z = refl

mul-turned : (x : Float) → neg x ⊗ neg x ≡ x ⊗ x
unfolding mul neg
mul-turned nan = refl
mul-turned (inf true) = refl
mul-turned (inf false) = refl
mul-turned (fin true m e) = refl
mul-turned (fin false m e) = refl

fma-square : (x y z : Float) → Mirror x y → fma y y z ≡ fma x x z
fma-square x y z (inl e) = rw e (fma-turned x z)
fma-square x y z (inr e) = rw e

mul-square : (x y : Float) → Mirror x y → y ⊗ y ≡ x ⊗ x
mul-square x y (inl e) = rw e (mul-turned x)
mul-square x y (inr e) = rw e

pub distance_mirror : (p q : Vec) → norm3 (sub3 q p) ≡ norm3 (sub3 p q)
unfolding norm3 dot3 sub3
distance_mirror p q =
    rw (
      mul-square (at p 2 ⊖ at q 2) (at q 2 ⊖ at p 2) (sub_mirror (at p 2) (at q 2)),
      fma-square (at p 1 ⊖ at q 1) (at q 1 ⊖ at p 1) _ (sub_mirror (at p 1) (at q 1)),
      fma-square (at p 0 ⊖ at q 0) (at q 0 ⊖ at p 0) _ (sub_mirror (at p 0) (at q 0)),
    )
