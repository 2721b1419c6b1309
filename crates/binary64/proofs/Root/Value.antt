-- The root of a value: `root_of` of its fraction, and the numbers that a pattern’s significand and exponent give.
use mathlib.Core.Path.{◌≡◌, refl, sym, ap, ◌∙◌}
use Prim.Native.Nat.{ℕ, zero, suc, ◌+◌, ◌-◌, ◌*◌, ◌/◌, ◌%◌, ◌^◌, ◌≤◌, ◌<◌}
use native.Mathlib.Nat.{lt_irrefl, mul_assoc}
use native.Mathlib.Omega.{arith}
use mathlib.Core.Bool.{true, false, true≢false}
use lib.IntN.{ℤ}
use lib.Pow.{pow-add}
use lib.Dec.{T}
use lib.Ieee.{Float, nan, inf, fin, Format, prec, low, up, down, units, fits}
use lib.Ieee.Fits.{down_pos, round-fits, nan-fits, inf-fits}
use lib.Ieee.Exact.{HasValue}
use Rattle.binary64.proofs.Pattern.{above_zero}
use Rattle.binary64.specs.Operations.{square_root, root_of}
use Rattle.binary64.proofs.Root.Rounded.{root_of_is}
use Rattle.binary64.specs.Format.{trailing, lowest}

-- ---- the root of a value
pub sqrt_is : (f : Format) (m : ℕ) (e : ℤ) → 0 < m → square_root f (fin false m e) ≡ root_of f (m * up e) (down e)
unfolding square_root
sqrt_is f zero e h = absurd (lt_irrefl 0 h)
sqrt_is f (suc m) e h = refl

pub sqrt-value : (f : Format) (x : Float) (v r K : ℕ) → HasValue x false v (2 ^ low f) → 0 < v → 1 ≤ r → r < 2 ^ prec f → 2 ^ (prec f + K) * 2 ^ (prec f + K) ≤ 4 * (v * 2 ^ low f)
    → (2 * r - 1) * (2 * r - 1) * (2 ^ K * 2 ^ K) < 4 * (v * 2 ^ low f) → 4 * (v * 2 ^ low f) < (2 * r + 1) * (2 * r + 1) * (2 ^ K * 2 ^ K) → square_root f x ≡ units f false r K
sqrt-value f nan v r K h p one small big lo hi = absurd h
sqrt-value f (inf s) v r K h p one small big lo hi = absurd h
sqrt-value f (fin true m e) v r K h p one small big lo hi = absurd (true≢false h.0)
sqrt-value f (fin false m e) v r K h p one small big lo hi =
    sqrt_is f m e (above_zero m (up e) (2 ^ low f) v (down e) h.1 p (down_pos e)) ∙ root_of_is f (m * up e) (down e) v r K (down_pos e) h.1 one small big lo hi

-- the root of what the format holds is held
pub sqrt_fits : (f : Format) (x : Float) → T (fits f x) → T (fits f (square_root f x))
unfolding square_root root_of
sqrt_fits f nan h = nan-fits f
sqrt_fits f (inf true) h = nan-fits f
sqrt_fits f (inf false) h = inf-fits f false
sqrt_fits f (fin s zero e) h = h
sqrt_fits f (fin true (suc m) e) h = nan-fits f
sqrt_fits f (fin false (suc m) e) h = round-fits f false _ _

-- what a root's place has beyond half of its square's, since both count from 2 ^ -1074
abbrev pub root_place : ℕ
root_place = (lowest - 2 * trailing) / 2

-- ---- the numbers of a pattern's root: the significand t at the exponent k, shifted up by z, and then by one more where d is odd
module _ (t z k d : ℕ) (place : d + z ≡ k + 52) where
  exponents : z + d % 2 + 52 + (d / 2 + root_place + (d / 2 + root_place)) ≡ k + lowest
  exponents = omega arith

  -- m * 2 ^ 52 * (2 ^ K * 2 ^ K) is the value, in units, times 2 ^ lowest
  pub value_is : t * 2 ^ z * 2 ^ (d % 2) * 2 ^ 52 * (2 ^ (d / 2 + root_place) * 2 ^ (d / 2 + root_place)) ≡ t * 2 ^ k * 2 ^ lowest
  value_is =
      ap (λ (x : ℕ). t * 2 ^ z * 2 ^ (d % 2) * 2 ^ 52 * x) (sym (pow-add 2 (d / 2 + root_place) (d / 2 + root_place)))
      ∙ flat (d / 2 + root_place + (d / 2 + root_place))
      ∙ ap (λ (x : ℕ). t * 2 ^ x) exponents
      ∙ ap (λ (x : ℕ). t * x) (pow-add 2 k lowest)
      ∙ sym (mul_assoc t (2 ^ k) (2 ^ lowest))
    where
      more : (a b : ℕ) → t * 2 ^ a * 2 ^ b ≡ t * 2 ^ (a + b)
      more a b = mul_assoc t (2 ^ a) (2 ^ b) ∙ ap (λ (x : ℕ). t * x) (sym (pow-add 2 a b))

      flat : (y : ℕ) → t * 2 ^ z * 2 ^ (d % 2) * 2 ^ 52 * 2 ^ y ≡ t * 2 ^ (z + d % 2 + 52 + y)
      flat y = ap (λ (x : ℕ). x * 2 ^ 52 * 2 ^ y) (more z (d % 2)) ∙ ap (λ (x : ℕ). x * 2 ^ y) (more (z + d % 2) 52) ∙ more (z + d % 2 + 52) y
