-- For readers; nothing rests on this file. What `fma` and `sqrt` of `specs/Operations` are, in the words of `specs/Nearest`:
-- `once`: x × y + z of finite values has one exact sign and size, and `fma` is that number rounded one time; an exact zero is −0 where both terms are negative, and +0 otherwise.
-- `once_nearest`: where it is finite it is the value nearest to the exact sum: within half a unit of its last digit, the even one at exactly half, and nothing of 53 digits is nearer.
-- `once_infinite`: what would be rounded to 2 ^ 1024 or more is an infinity of the exact sum's sign.
-- `fma_comm`, `fma-one`: a × b + c is b × a + c, and a × 1 + c is a + c, for every value, NaN, infinities and signed zeros included.
-- `sqrt_nearest`, `nearest_is_sqrt`: the root of a finite value above zero is the value nearest to the exact root, which lies strictly between two midpoints; and no other value is.
-- `root-from-below`, `root-from-above`, in any format: no fraction at or below the exact root is rounded to more than `square_root`, and none at or above it to less.
use mathlib.Core.Path.{◌≡◌, refl, sym, subst, ◌∙◌}
use mathlib.Core.Bool.{Bool, false}
use Prim.Native.Nat.{ℕ, ◌+◌, ◌*◌, ◌^◌, ◌≤◌, ◌<◌}
use lib.Dec.{T}
use lib.Pow.{pow_pos}
use lib.Ieee.{Float, inf, Format, binary64, unlike, fits, round, le, add}
use lib.Ieee.Exact.{HasValue}
use lib.Ieee.Order.{drop, kept}
use lib.Ieee.Positive.{positive}
use lib.Ieee.Positive as Positive
use lib.Ieee.Scale.{grid, overflow, finite}
use Rattle.binary64.specs.Binary64.{one}
use Rattle.binary64.specs.Operations.{fma, square_root, sqrt}
use Rattle.binary64.specs.Nearest.{den, RoundedOnce, NearestValue, NearestRoot}
use Rattle.binary64.proofs.Values.{fma-values}
use Rattle.binary64.proofs.Once.{sum_once}
use Rattle.binary64.proofs.Nearest.{grid_near, grid_even, grid_best, round_value, round_finite, round_infinite}
use Rattle.binary64.proofs.Commute.{factors_commute, by_one}
use Rattle.binary64.proofs.Root.Nearest.{positive_nearest, nearest_only}
use Rattle.binary64.proofs.Root.Order.{below, above}
use Rattle.binary64.specs.Format.{precision, lowest}

-- ---- fma

-- x is ±n, y is ±k and z is ±p of the smallest values: x × y + z is ±n * k ± p * 2 ^ 1074, over 2 ^ 2148
pub once : (x y z : Float) (s t u : Bool) (n k p : ℕ) → HasValue x s n (2 ^ lowest) → HasValue y t k (2 ^ lowest) → HasValue z u p (2 ^ lowest)
    → RoundedOnce (fma x y z) (unlike s t) (n * k) u (p * 2 ^ lowest) den
once x y z s t u n k p X Y Z =
    subst (λ (r : Float). RoundedOnce r (unlike s t) (n * k) u (p * 2 ^ lowest) den) (fma-values x y z s t u n k p X Y Z)
    (sum_once (unlike s t) u (n * k) (p * 2 ^ lowest) den)

pub once_nearest : (r : Float) (s t : Bool) (a b : ℕ) (o : RoundedOnce r s a t b den) → T (finite r) → NearestValue r o.negative o.size
once_nearest r s t a b o h =
    let v = o.size in
    let e = o.rounded in
    let under = round_finite binary64 o.negative v den (subst (λ (x : Float). T (finite x)) e h) in
    record {
      units = grid binary64 v den;
      significand = kept precision (v * 2 ^ lowest) den;
      exponent = drop precision (v * 2 ^ lowest) den;
      last = refl;
      value = subst (λ (x : Float). HasValue x o.negative (grid binary64 v den) (2 ^ lowest)) (sym e) (round_value binary64 o.negative v den under);
      near = grid_near binary64 v den (pow_pos (lowest + lowest));
      even = grid_even binary64 v den (pow_pos (lowest + lowest));
      best = grid_best binary64 v den (pow_pos (lowest + lowest));
    }

pub once_infinite : (r : Float) (s t : Bool) (a b : ℕ) (o : RoundedOnce r s a t b den) → overflow binary64 ≤ grid binary64 o.size den → r ≡ inf o.negative
once_infinite r s t a b o h = o.rounded ∙ round_infinite binary64 o.negative o.size den h

pub fma_comm : (a b c : Float) → fma a b c ≡ fma b a c
fma_comm a b c = factors_commute a b c

pub fma-one : (a c : Float) → fma a one c ≡ add binary64 a c
fma-one a c = by_one a c

-- ---- sqrt

pub sqrt_nearest : (x : Float) → T (fits binary64 x) → T (positive x) → NearestRoot x (sqrt x)
unfolding sqrt
sqrt_nearest x h p = positive_nearest x h p

pub nearest_is_sqrt : (x y : Float) → T (fits binary64 x) → T (fits binary64 y) → NearestRoot x y → y ≡ sqrt x
unfolding sqrt
nearest_is_sqrt x y hx hy n = nearest_only x y hx hy n

-- x is num x / den x
pub root-from-below : (f : Format) (x : Float) (a c : ℕ) → T (positive x) → 0 < c → a * a * Positive.den x ≤ Positive.num x * (c * c) → T (le (round f false a c) (square_root f x))
root-from-below f x a c p C h = below f x a c p C h

pub root-from-above : (f : Format) (x : Float) (a c : ℕ) → T (positive x) → 0 < c → Positive.num x * (c * c) ≤ a * a * Positive.den x → T (le (square_root f x) (round f false a c))
root-from-above f x a c p C h = above f x a c p C h
