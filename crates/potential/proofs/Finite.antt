-- With each difference of coordinates below 1e100 in size, so below 2 ^ 333, the solid angle is finite: inner products stay below 2 ^ 668, norms below 2 ^ 335, numerator and denominator below 2 ^ 1008,
-- and atan2 of two finite numbers is finite. So in the plane its part is a zero, and a value other than zero stays as it is.
use mathlib.Core.Path.{◌≡◌, refl, sym}
use mathlib.Core.Bool.{Bool, true, false, ◌&&◌, false≢true}
use Prim.Native.Nat.{ℕ, suc, ◌+◌, ◌*◌, ◌^◌, ◌≤◌, ◌<◌}
use native.Mathlib.Nat.{le_trans, le_of_eq, le_of_lt, le-suc, mul-one, mul-le-mul_right}
use native.Mathlib.Omega.{arith}
use lib.Dec.{T, lit≤}
use lib.Ieee.{Float, nan, inf, fin, binary64, up, down, neg, lt, eq, ne, fits, of_bits}
use borrow.Author.Tests.{ltb-true, not-true}
use Rattle.binary64.specs.Binary64.{◌⊕◌, ◌⊖◌, ◌⊗◌, at, plus_zero}
use Rattle.binary64.proofs.Bounded.{Below, below, wider, square-within, mul-below, add-below, sub-below}
use Rattle.binary64.proofs.Zeros.{zero_times, less_zero}
use Rattle.ieee754.specs.Ieee754.{fma}
use Rattle.binary64.proofs.OperationsBounded.{fma-below, square-add-within, sqrt-below}
use Rattle.elementary.proofs.Bounded.{zero_below, two-below, atan2-below}
use Rattle.math.specs.Math.{Vec, dot3, norm3, cross3}
use Rattle.potential.specs.Moderate.{limit, moderate, moderate3}
use Rattle.potential.specs.Potential.{solid_angle}

-- ---- the test

both : (a b : Bool) → a && b ≡ true → (a ≡ true) × (b ≡ true)
both true b h = (refl, h)
both false b h = absurd (false≢true h)

-- for the limit l, which is below 2 ^ 333: 1e100 is 0x1249ad2594c37d × 2 ^ 280
under : (l a c : ℕ) → l ≤ 2 ^ 333 → a * 1 < l * c → a ≤ 2 ^ 333 * c
under l a c b h = le_trans (le_of_eq (sym (mul-one a))) (le_trans (le_of_lt h) (mul-le-mul_right c b))

limit-below : (x : Float) → lt (neg limit) x ≡ true → lt x limit ≡ true → Below 333 x
unfolding lt neg of_bits
limit-below nan h g = absurd (false≢true h)
limit-below (inf true) h g = absurd (false≢true h)
limit-below (inf false) h g = absurd (false≢true g)
limit-below (fin true m e) h g = below (under _ (m * up e) (down e) (lit≤ tt) (ltb-true _ _ h))
limit-below (fin false m e) h g = below (under _ (m * up e) (down e) (lit≤ tt) (ltb-true _ _ g))

moderate-below : (x : Float) → moderate x ≡ true → Below 333 x
unfolding moderate
moderate-below x h = let p = both (lt (neg limit) x) (lt x limit) h in limit-below x p.0 p.1

-- each element of v is below 2 ^ k
abbrev Bound : ℕ → Vec → Type 0
Bound k v = Below k (at v 0) × Below k (at v 1) × Below k (at v 2)

moderate3_bound : (v : Vec) → moderate3 v ≡ true → Bound 333 v
unfolding moderate3
moderate3_bound v h =
    let p = both _ _ h in
    let q = both _ _ p.0 in
    (moderate-below (at v 0) q.0, moderate-below (at v 1) q.1, moderate-below (at v 2) p.1)

-- ---- the solid angle

dot_below : (j k : ℕ) (a b : Vec) → suc (suc (j + k)) ≤ 1023 → Bound j a → Bound k b → Below (suc (suc (j + k))) (dot3 a b)
unfolding dot3
dot_below j k a b l A B = fma-below A.0 B.0 (fma-below A.1 B.1 (mul-below A.2 B.2 (less2 (j + k) l)) (le_of_eq refl) (less (j + k) l)) (le-suc (j + k)) l
  where
    less : (n : ℕ) → suc (suc n) ≤ 1023 → suc n ≤ 1023
    less n h = omega arith

    less2 : (n : ℕ) → suc (suc n) ≤ 1023 → n ≤ 1023
    less2 n h = omega arith

norm_below : (v : Vec) → Bound 333 v → Below 335 (norm3 v)
unfolding norm3 dot3
norm_below v B =
    sqrt-below {k = 334} (square-add-within B.0 (square-add-within B.1 (square-within B.2 (lit≤ tt)) (lit≤ tt) (lit≤ tt)) (lit≤ tt) (lit≤ tt)) (lit≤ tt)

cross_bound : (a b : Vec) → Bound 333 a → Bound 333 b → Bound 668 (cross3 a b)
unfolding cross3
cross_bound a b A B = (
  element A.1 B.2 B.1 A.2,
  element A.2 B.0 B.2 A.0,
  element A.0 B.1 B.0 A.1,
)
  where
    element : {w x y z : Float} → Below 333 w → Below 333 x → Below 333 y → Below 333 z → Below 668 (fma w x ((plus_zero ⊖ y) ⊗ z))
    element W X Y Z = fma-below W X (mul-below (sub-below (wider (lit≤ tt) zero_below) Y (lit≤ tt)) Z (lit≤ tt)) (lit≤ tt) (lit≤ tt)

solid_angle-below : (r0 r1 r2 : Vec) → Bound 333 r0 → Bound 333 r1 → Bound 333 r2 → Below 71 (solid_angle r0 r1 r2)
unfolding solid_angle
solid_angle-below r0 r1 r2 A B C = mul-below two-below (atan2-below numerator denominator) (lit≤ tt)
  where
    numerator : Below 1003 (dot3 r0 (cross3 r1 r2))
    numerator = dot_below 333 668 r0 (cross3 r1 r2) (lit≤ tt) A (cross_bound r1 r2 B C)

    term : (a b c : Vec) → Bound 333 a → Bound 333 b → Bound 333 c → (k : ℕ) → 1003 ≤ k → Below k (dot3 a b ⊗ norm3 c)
    term a b c A B C k l = wider l (mul-below (dot_below 333 333 a b (lit≤ tt) A B) (norm_below c C) (lit≤ tt))

    denominator : Below 1008 (norm3 r0 ⊗ norm3 r1 ⊗ norm3 r2 ⊕ dot3 r0 r1 ⊗ norm3 r2 ⊕ dot3 r1 r2 ⊗ norm3 r0 ⊕ dot3 r2 r0 ⊗ norm3 r1)
    denominator =
        add-below (add-below (add-below (mul-below (mul-below (norm_below r0 A) (norm_below r1 B) (lit≤ tt)) (norm_below r2 C) (lit≤ tt))
        (term r0 r1 r2 A B C 1005 (lit≤ tt)) (lit≤ tt)) (term r1 r2 r0 B C A 1006 (lit≤ tt)) (lit≤ tt)) (term r2 r0 r1 C A B 1007 (lit≤ tt)) (lit≤ tt)

-- ---- in the plane

pub left_out : (r0 r1 r2 : Vec) (d value : Float) → T (fits binary64 value) → eq d plus_zero && ne value plus_zero && moderate3 r0 && moderate3 r1 && moderate3 r2 ≡ true
    → value ≡ value ⊖ d ⊗ solid_angle r0 r1 r2
unfolding ne
left_out r0 r1 r2 d value held h =
    let p2 = both (eq d plus_zero && ne value plus_zero && moderate3 r0 && moderate3 r1) (moderate3 r2) h in
    let p1 = both (eq d plus_zero && ne value plus_zero && moderate3 r0) (moderate3 r1) p2.0 in
    let p0 = both (eq d plus_zero && ne value plus_zero) (moderate3 r0) p1.0 in
    let p = both (eq d plus_zero) (ne value plus_zero) p0.0 in
    less_zero value held (not-true (eq value plus_zero) p.1)
    (zero_times d p.0 (solid_angle-below r0 r1 r2 (moderate3_bound r0 p0.1) (moderate3_bound r1 p1.1) (moderate3_bound r2 p2.1)))
