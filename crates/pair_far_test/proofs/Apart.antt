-- Two points that differ in some coordinate by 2^-30 or more do not match: the square of that difference is 2^-60 or more, so is the sum of squares, whose
-- other terms are not negative, and so its root is 2^-30 or more, which is above the tolerance. Rounding keeps the order; a NaN matches nothing.
use mathlib.Core.Path.{◌≡◌, refl, sym, ap, ◌∙◌, subst}
use mathlib.Core.Logic.{◌⊎◌, inl, inr}
use mathlib.Core.Bool.{Bool, true, false, not, cond, ◌&&◌, ◌||◌, true≢false, false≢true}
use Prim.Native.Nat.{ℕ, zero, suc, ◌+◌, ◌-◌, ◌*◌, ◌/◌, ◌%◌, ◌^◌, ◌≤◌, ◌<◌, compare}
use native.Mathlib.Nat.{le_trans, le_of_eq, mul_comm, mul_assoc, mul_left_comm, mul-le-mul, mul-le-mul_right, mul-pos, one-mul, le-div_iff_mul-le}
use native.Mathlib.Omega.{arith}
use borrow.Author.Tests.{le-ltb}
use lib.IntN.{ℤ, negsuc}
use lib.Dec.{T, ltb, leb, eqb, ltb→lt, eqb→eq, leb→le, nleb→lt}
use lib.Pow.{pow_pos}
use lib.Ieee.{Float, nan, inf, fin, binary64, low, emax, prec, up, down, size, nearest, units, odd, round, sum, add, mul, neg, lt, le, eq, of_bits}
use lib.Ieee.Fits.{down_pos, and_l, and_r}
use lib.Ieee.Order.{round_mono}
use lib.Ieee.Positive.{above_of_le, le→cross}
use Rattle.binary64.specs.Binary64.{◌⊖◌, ◌⊗◌, at}
use Rattle.binary64.specs.Operations.{fma_fin, root, root_of, square_root}
use Rattle.binary64.proofs.Root.Floor.{root_floor}
use Rattle.ieee754.specs.Ieee754.{fma, sqrt}
use Rattle.math.specs.Math.{Vec, dot3, norm3, sub3}
use Rattle.tri.specs.Mapping.{Tri, corner}
use Rattle.boundary_element.specs.Identity.{tolerance, points_match, matches_corner}
use Rattle.pair_far_test.specs.Which.{is_wide, is_clear}

-- a NaN, or not negative
abbrev Plus : Float → Type 0
Plus nan = T true
Plus (inf s) = s ≡ false
Plus (fin s m e) = s ≡ false

-- a NaN, or 2^-k or more
abbrev Over : ℕ → Float → Type 0
Over k nan = T true
Over k (inf s) = s ≡ false
Over k (fin s m e) = (s ≡ false) × (down e ≤ m * up e * 2 ^ k)

-- 2^-(k + 1)
abbrev inverse : ℕ → Float
inverse k = fin false 1 (negsuc k)

over : (k : ℕ) (y : Float) → T (le (inverse k) y) → Over (suc k) y
over k nan h = tt
over k (inf true) h = absurd (above_of_le (inverse k) (inf true) tt h)
over k (inf false) h = refl
over k (fin true m e) h = absurd (above_of_le (inverse k) (fin true m e) tt h)
over k (fin false m e) h = (refl, le_trans (le_of_eq (sym (one-mul (down e)))) (le→cross (inverse k) (fin false m e) tt (above_of_le (inverse k) (fin false m e) tt h) h))

-- rounding keeps what is 2^-(k + 1) or more so, where that is a value of the format
round_over : (k : ℕ) → round binary64 false 1 (2 ^ suc k) ≡ inverse k → (a c : ℕ) → 0 < c → c ≤ a * 2 ^ suc k → Over (suc k) (round binary64 false a c)
round_over k own a c C h =
    over k (round binary64 false a c)
    (subst (λ (x : Float). T (le x (round binary64 false a c))) own (round_mono binary64 1 (2 ^ suc k) a c (pow_pos (suc k)) C (le_trans (le_of_eq (one-mul c)) h)))

round_over_30 : (a c : ℕ) → 0 < c → c ≤ a * 2 ^ 30 → Over 30 (round binary64 false a c)
unfolding round units odd
round_over_30 = round_over 29 refl

round_over_60 : (a c : ℕ) → 0 < c → c ≤ a * 2 ^ 60 → Over 60 (round binary64 false a c)
unfolding round units odd
round_over_60 = round_over 59 refl

-- ---- signs
odd_plus : (d q k l : ℕ) → Plus (odd d false q k l)
unfolding odd
odd_plus d zero k l = refl
odd_plus d (suc q) k l = refl

units-plus : (q k : ℕ) → Plus (units binary64 false q k)
unfolding units
units-plus q k = go (ltb (q * 2 ^ k) (2 ^ (low binary64 + suc (emax binary64))))
  where
    go : (b : Bool) → Plus (cond b (odd (suc (prec binary64)) false q k (low binary64)) (inf false))
    go true = odd_plus (suc (prec binary64)) q k (low binary64)
    go false = refl

round_plus : (a c : ℕ) → Plus (round binary64 false a c)
unfolding round
round_plus a c =
    let n = a * 2 ^ low binary64 in
    let k = size (n / c) - prec binary64 in
    let u = c * 2 ^ k in
    units-plus (nearest (n / u) (compare (n % u * 2) u)) k

mul-plus : (x : Float) → Plus (x ⊗ x)
unfolding mul
mul-plus nan = tt
mul-plus (inf true) = refl
mul-plus (inf false) = refl
mul-plus (fin true m e) = round_plus (m * up e * (m * up e)) (down e * down e)
mul-plus (fin false m e) = round_plus (m * up e * (m * up e)) (down e * down e)

fma-plus : (x z : Float) → Plus z → Plus (fma x x z)
unfolding fma fma_fin mul add sum
fma-plus nan z p = tt
fma-plus (inf true) nan p = tt
fma-plus (inf true) (inf true) p = absurd (true≢false p)
fma-plus (inf true) (inf false) p = refl
fma-plus (inf true) (fin t n d) p = refl
fma-plus (inf false) nan p = tt
fma-plus (inf false) (inf true) p = absurd (true≢false p)
fma-plus (inf false) (inf false) p = refl
fma-plus (inf false) (fin t n d) p = refl
fma-plus (fin s m e) nan p = tt
fma-plus (fin s m e) (inf t) p = p
fma-plus (fin s m e) (fin true n d) p = absurd (true≢false p)
fma-plus (fin true m e) (fin false n d) p = round_plus (m * up e * (m * up e) * down d + n * up d * (down e * down e)) (down e * down e * down d)
fma-plus (fin false m e) (fin false n d) p = round_plus (m * up e * (m * up e) * down d + n * up d * (down e * down e)) (down e * down e * down d)

-- ---- squares of what is 2^-30 or more
square_reaches : (m d w : ℕ) → d ≤ m * w → d * d ≤ m * m * (w * w)
square_reaches m d w h = le_trans (mul-le-mul h h) (le_of_eq (simp (mul_assoc, mul_comm, mul_left_comm)))

-- |x| is 2^-30 or more
abbrev Wide : Float → Type 0
Wide nan = T false
Wide (inf s) = T true
Wide (fin s m e) = down e ≤ m * up e * 2 ^ 30

sixty : (m d : ℕ) → d ≤ m * 2 ^ 30 → d * d ≤ m * m * 2 ^ 60
sixty m d h = square_reaches m d (2 ^ 30) h

mul_over : (x : Float) → Wide x → Over 60 (x ⊗ x)
unfolding mul
mul_over nan w = absurd w
mul_over (inf true) w = refl
mul_over (inf false) w = refl
mul_over (fin true m e) w = round_over_60 (m * up e * (m * up e)) (down e * down e) (mul-pos (down_pos e) (down_pos e)) (sixty (m * up e) (down e) w)
mul_over (fin false m e) w = round_over_60 (m * up e * (m * up e)) (down e * down e) (mul-pos (down_pos e) (down_pos e)) (sixty (m * up e) (down e) w)

-- a / d ≥ 2^-60 or b / e ≥ 2^-60 gives (a · e + b · d) / (d · e) ≥ 2^-60
left_over : (a b d e w : ℕ) → d ≤ a * w → d * e ≤ (a * e + b) * w
left_over a b d e w h =
    le_trans (mul-le-mul_right e h)
    (le_trans (le_of_eq (simp (mul_assoc, mul_comm, mul_left_comm))) (mul-le-mul_right w (le-add a e b)))
  where
    le-add : (a e b : ℕ) → a * e ≤ a * e + b
    le-add a e b = omega arith

right_over : (a b d e w : ℕ) → e ≤ b * w → d * e ≤ (a + b * d) * w
right_over a b d e w h =
    le_trans (le_of_eq (mul_comm d e))
    (le_trans (mul-le-mul_right d h)
    (le_trans (le_of_eq (simp (mul_assoc, mul_comm, mul_left_comm))) (mul-le-mul_right w (le-add a b d))))
  where
    le-add : (a b d : ℕ) → b * d ≤ a + b * d
    le-add a b d = omega arith

-- the sum of a square and a number that is not negative, rounded
both_over : (m : ℕ) (e : ℤ) (n : ℕ) (d : ℤ) → (down e ≤ m * up e * 2 ^ 30) ⊎ Over 60 (fin false n d)
    → Over 60 (round binary64 false (m * up e * (m * up e) * down d + n * up d * (down e * down e)) (down e * down e * down d))
both_over m e n d w =
    round_over_60 (m * up e * (m * up e) * down d + n * up d * (down e * down e)) (down e * down e * down d) (mul-pos (mul-pos (down_pos e) (down_pos e)) (down_pos d))
    (elim w [
      | inl l ↦ left_over (m * up e * (m * up e)) (n * up d * (down e * down e)) (down e * down e) (down d) (2 ^ 60) (sixty (m * up e) (down e) l)
      | inr r ↦ right_over (m * up e * (m * up e) * down d) (n * up d) (down e * down e) (down d) (2 ^ 60) r.1
    ])

-- x · x + z, where x is wide or z is 2^-60 or more
fma_over : (x z : Float) → Plus z → Wide x ⊎ Over 60 z → Over 60 (fma x x z)
unfolding fma fma_fin mul add sum
fma_over nan z p w = tt
fma_over (inf true) nan p w = tt
fma_over (inf true) (inf true) p w = absurd (true≢false p)
fma_over (inf true) (inf false) p w = refl
fma_over (inf true) (fin t n d) p w = refl
fma_over (inf false) nan p w = tt
fma_over (inf false) (inf true) p w = absurd (true≢false p)
fma_over (inf false) (inf false) p w = refl
fma_over (inf false) (fin t n d) p w = refl
fma_over (fin s m e) nan p w = tt
fma_over (fin s m e) (inf t) p w = p
fma_over (fin s m e) (fin true n d) p w = absurd (true≢false p)
fma_over (fin true m e) (fin false n d) p w = both_over m e n d w
fma_over (fin false m e) (fin false n d) p w = both_over m e n d w

-- ---- the root
-- n / c ≥ r² gives root (n / c) ≥ r
root_reaches : (n q r : ℕ) → n < (q + 1) * (q + 1) → r * r ≤ n → r ≤ q
root_reaches n q r h k = go (leb r q) (leb→le r q) (nleb→lt r q)
  where
    go : (b : Bool) → (T b → r ≤ q) → (T (not b) → q < r) → r ≤ q
    go true y z = y tt
    go false y z =
        let l : q + 1 ≤ r = let g = z tt in omega arith in
        let m : (q + 1) * (q + 1) ≤ r * r = mul-le-mul l l in
        absurd (omega arith)

above-unit : (q r b w u : ℕ) → u ≡ 2 * r * w → r ≤ q → u ≤ (2 * q + b) * w
above-unit q r b w u e h =
    let l : 2 * r ≤ 2 * q + b = omega arith in
    le_trans (le_of_eq e) (mul-le-mul_right w l)

-- r² · w is the scale of `root_of`
digits-reach : (a c r w u : ℕ) → 0 < c → c ≤ a * w → r * r * w ≡ u → r * r ≤ a * u / c
digits-reach a c r w u C h e =
    let g : r * r * c ≤ r * r * (a * w) = mul-le-mul (le_of_eq refl) h in
    let f : r * r * (a * w) ≡ a * (r * r * w) = simp (mul_assoc, mul_comm, mul_left_comm) in
    (le-div_iff_mul-le C).1 (le_trans g (le_of_eq (f ∙ ap (λ (x : ℕ). a * x) e)))

root_of_over : (a c : ℕ) → 0 < c → c ≤ a * 2 ^ 60 → Over 30 (root_of binary64 a c)
unfolding root_of
root_of_over a c C h =
    let n = a * 4 ^ 1075 in
    let q = root (n / c) in
    let l : 2 ^ 1045 ≤ q = root_reaches (n / c) q (2 ^ 1045) (root_floor (n / c)).1 (digits-reach a c (2 ^ 1045) (2 ^ 60) (4 ^ 1075) C h refl) in
    round_over_30 (2 * q + cond (eqb (q * q * c) n) 0 1) (2 ^ 1076) (pow_pos 1076) (above-unit q (2 ^ 1045) (cond (eqb (q * q * c) n) 0 1) (2 ^ 30) (2 ^ 1076) refl l)

sqrt_over : (y : Float) → Over 60 y → Over 30 (sqrt y)
unfolding sqrt square_root
sqrt_over nan p = tt
sqrt_over (inf true) p = absurd (true≢false p)
sqrt_over (inf false) p = refl
sqrt_over (fin true m e) p = absurd (true≢false p.0)
sqrt_over (fin false zero e) p = let h = down_pos e in let g = p.1 in absurd (omega arith)
sqrt_over (fin false (suc m) e) p = root_of_over (suc m * up e) (down e) (down_pos e) p.1

-- 1e-12 is below 2^-30
not-below : (y : Float) → Over 30 y → lt y tolerance ≡ false
unfolding lt of_bits
not-below nan p = refl
not-below (inf true) p = absurd (true≢false p)
not-below (inf false) p = refl
not-below (fin true m e) p = absurd (true≢false p.0)
not-below (fin false m e) p = let h = p.1 in le-ltb (m * up e * 2 ^ 92) (0x11_9799_812d_ea11 * 1 * down e) (omega arith)

-- ---- the test
reach : (a b : ℕ) (x : Bool) → T (ltb b a || (eqb a b && x)) → b ≤ a
reach a b x t = go (ltb b a) (ltb→lt b a) t
  where
    go : (y : Bool) → (T y → b < a) → T (y || (eqb a b && x)) → b ≤ a
    go true h t = let g = h tt in omega arith
    go false h t = le_of_eq (sym (eqb→eq a b (and_l (eqb a b) x t)))

under_wide : (x : Float) → T (le x (neg (inverse 29))) → Wide x
unfolding le lt eq neg
under_wide nan h = h
under_wide (inf s) h = tt
under_wide (fin true m e) h = let g = reach (m * up e * 2 ^ 30) (1 * down e) true h in omega arith
under_wide (fin false m e) h =
    let g = down_pos e in
    let a = eqb→eq (m * up e * 2 ^ 30) (1 * down e) (and_l (eqb (m * up e * 2 ^ 30) (1 * down e)) (eqb (m * up e * 2 ^ 30) 0) h) in
    let b = eqb→eq (m * up e * 2 ^ 30) 0 (and_r (eqb (m * up e * 2 ^ 30) (1 * down e)) (eqb (m * up e * 2 ^ 30) 0) h) in
    absurd (omega arith)

over_wide : (x : Float) → T (le (inverse 29) x) → Wide x
unfolding le lt eq
over_wide nan h = h
over_wide (inf s) h = tt
over_wide (fin s m e) h = (over 29 (fin s m e) h).1

wide_is : (x : Float) → T (is_wide x) → Wide x
unfolding is_wide of_bits
wide_is x h = go (le (inverse 29) x) (over_wide x) h
  where
    go : (b : Bool) → (T b → Wide x) → T (b || le x (neg (inverse 29))) → Wide x
    go true y t = y tt
    go false y t = under_wide x t

-- ---- the points
dot_over : (x y z : Float) → Wide x ⊎ (Wide y ⊎ Wide z) → Over 60 (fma x x (fma y y (z ⊗ z)))
dot_over x y z (inl w) = fma_over x (fma y y (z ⊗ z)) (fma-plus y (z ⊗ z) (mul-plus z)) (inl w)
dot_over x y z (inr (inl w)) = fma_over x (fma y y (z ⊗ z)) (fma-plus y (z ⊗ z) (mul-plus z)) (inr (fma_over y (z ⊗ z) (mul-plus z) (inl w)))
dot_over x y z (inr (inr w)) = fma_over x (fma y y (z ⊗ z)) (fma-plus y (z ⊗ z) (mul-plus z)) (inr (fma_over y (z ⊗ z) (mul-plus z) (inr (mul_over z w))))

some_wide : (x y z : Float) → T (is_wide x || (is_wide y || is_wide z)) → Wide x ⊎ (Wide y ⊎ Wide z)
some_wide x y z h = first (is_wide x) (wide_is x) h
  where
    second : (b : Bool) → (T b → Wide y) → T (b || is_wide z) → Wide x ⊎ (Wide y ⊎ Wide z)
    second true w t = inr (inl (w tt))
    second false w t = inr (inr (wide_is z t))

    first : (b : Bool) → (T b → Wide x) → T (b || (is_wide y || is_wide z)) → Wide x ⊎ (Wide y ⊎ Wide z)
    first true w t = inl (w tt)
    first false w t = second (is_wide y) (wide_is y) t

clear_apart : (a b : Vec) → is_clear a b ≡ true → points_match a b ≡ false
unfolding is_clear points_match norm3 dot3 sub3
clear_apart a b e =
    let x = at a 0 ⊖ at b 0 in
    let y = at a 1 ⊖ at b 1 in
    let z = at a 2 ⊖ at b 2 in
    not-below (sqrt (fma x x (fma y y (z ⊗ z)))) (sqrt_over (fma x x (fma y y (z ⊗ z))) (dot_over x y z (some_wide x y z (subst T (sym e) tt))))

-- a point that is clear of the three corners matches none
pub clear_corners : (p : Vec) (t : Tri) → is_clear p (corner t 0) && (is_clear p (corner t 1) && is_clear p (corner t 2)) ≡ true → matches_corner p t ≡ false
unfolding matches_corner
clear_corners p t e =
    go (is_clear p (corner t 0)) (is_clear p (corner t 1)) (is_clear p (corner t 2)) (clear_apart p (corner t 0)) (clear_apart p (corner t 1)) (clear_apart p (corner t 2)) e
  where
    go : (a b c : Bool) → (a ≡ true → points_match p (corner t 0) ≡ false) → (b ≡ true → points_match p (corner t 1) ≡ false) → (c ≡ true → points_match p (corner t 2) ≡ false)
        → a && (b && c) ≡ true → points_match p (corner t 0) || (points_match p (corner t 1) || points_match p (corner t 2)) ≡ false
    go true true true f g h e = rw (f refl, g refl, h refl)
    go true true false f g h e = absurd (false≢true e)
    go true false c f g h e = absurd (false≢true e)
    go false b c f g h e = absurd (false≢true e)
