-- Bounds by powers of two of `fma` and `sqrt`. `fma` has the exact sum's bound before its one rounding; the square root of at most 2 ^ 2k is at most 2 ^ (k + 1), which is not sharp: one power is
-- spent on the digit that stands for the rest.
use mathlib.Core.Path.{◌≡◌, refl, sym, ap, ◌∙◌, subst}
use mathlib.Core.Bool.{Bool, true, false, cond}
use Prim.Native.Nat.{ℕ, zero, suc, ◌+◌, ◌*◌, ◌/◌, ◌^◌, ◌≤◌, ◌<◌, zero-le}
use native.Mathlib.Nat.{le_trans, le_of_eq, le-suc, lt_of_le_of_lt, lt_of_not-le, lt-suc_self, zero-lt-suc, le_of_suc-le-suc, not-le_of_lt, mul_comm, mul-one, mul_right_comm, zero-mul, mul-pos, mul-le-mul, mul-le-mul_left, mul-le-mul_right, mul-lt-mul_of_pos_right, mul-mul-mul_comm, two-pow-succ, div-one}
use native.Mathlib.Omega.{arith}
use lib.Dec.{eqb}
use lib.Pow.{pow-add, pow_pos, pow_mono}
use lib.Ieee.{Float, binary64, low, unlike, up, down, sum}
use lib.Ieee.Fits.{down_pos}
use lib.Ieee.Nearest.{div_mono}
use Rattle.binary64.specs.Operations.{root, root_of, square_root, sqrt, fma, fma_fin}
use Rattle.binary64.proofs.Root.Floor.{four_pow, root_floor}
use Rattle.binary64.proofs.Bounded.{Within, within, Below, below, either_sign, product_le, term-le, alike, sum_below, sum-within, round_within}
use Rattle.binary64.specs.Format.{bias}

-- ---- x × y + z

-- the two terms over the common denominator
module _ (k l m n p a b c : ℕ) (M : m * n ≤ 2 ^ k * (a * b)) (P : p ≤ 2 ^ l * c) (K : k ≤ l) where
  first-le : m * n * c ≤ 2 ^ l * (a * b * c)
  first-le = term-le l (m * n) (a * b) c (le_trans M (mul-le-mul_right (a * b) (pow_mono K)))

  second-le : p * (a * b) ≤ 2 ^ l * (a * b * c)
  second-le = subst (λ (z : ℕ). p * (a * b) ≤ 2 ^ l * z) (mul_comm c (a * b)) (term-le l p c (a * b) P)

pub fma-below : {j k l : ℕ} {x y z : Float} → Below j x → Below k y → Below l z → j + k ≤ l → suc l ≤ bias → Below (suc l) (fma x y z)
unfolding fma fma_fin
fma-below {j} {k} {l} (below {s = s} {m = m} {e = e} h) (below {s = t} {m = n} {e = d} g) (below {s = u} {m = p} {e = c} i) K L =
    let M : m * up e * (n * up d) ≤ 2 ^ (j + k) * (down e * down d) = product_le j k (m * up e) (n * up d) (down e) (down d) h g in
    sum_below (unlike s t) u (m * up e * (n * up d) * down c) (p * up c * (down e * down d)) (down e * down d * down c) l
    (mul-pos (mul-pos (down_pos e) (down_pos d)) (down_pos c)) L
    (first-le (j + k) l (m * up e) (n * up d) (p * up c) (down e) (down d) (down c) M i K)
    (second-le (j + k) l (m * up e) (n * up d) (p * up c) (down e) (down d) (down c) M i K)

-- a square and what is not negative
pub square-add-within : {k l : ℕ} {x z : Float} → Below k x → Within false l z → k + k ≤ l → suc l ≤ bias → Within false (suc l) (fma x x z)
unfolding fma fma_fin
square-add-within {k} {l} (below {s = s} {m = m} {e = e} h) (within {m = p} {e = c} i) K L =
    let M : m * up e * (m * up e) ≤ 2 ^ (k + k) * (down e * down e) = product_le k k (m * up e) (m * up e) (down e) (down e) h h in
    subst (λ (w : Bool). Within false (suc l) (sum binary64 w (m * up e * (m * up e) * down c) false (p * up c * (down e * down e)) (down e * down e * down c))) (sym (alike s))
    (sum-within false false (m * up e * (m * up e) * down c) (p * up c * (down e * down e)) (down e * down e * down c) l
    (mul-pos (mul-pos (down_pos e) (down_pos e)) (down_pos c)) L
    (first-le (k + k) l (m * up e) (m * up e) (p * up c) (down e) (down e) (down c) M i K)
    (second-le (k + k) l (m * up e) (m * up e) (p * up c) (down e) (down e) (down c) M i K))

-- ---- the square root

root-le : (n b : ℕ) → n ≤ b * b → root n ≤ b
root-le n b h = le_of_suc-le-suc (lt_of_not-le (λ (g : suc b ≤ root n). not-le_of_lt (far b) (le_trans (mul-le-mul g g) (le_trans (root_floor n).0 h))))
  where
    far : (b : ℕ) → b * b < suc b * suc b
    far b = lt_of_le_of_lt (mul-le-mul_left b (le-suc b)) (mul-lt-mul_of_pos_right (lt-suc_self b) (zero-lt-suc b))

-- the whole part of the root of a / c in units of 2 ^ -(l + 1)
whole_le : (k l a c : ℕ) → 0 < c → a ≤ 2 ^ (k + k) * c → root (a * 4 ^ suc l / c) ≤ 2 ^ (k + suc l)
whole_le k l a c C h = root-le (a * 4 ^ suc l / c) (2 ^ (k + suc l)) (le_trans (div_mono (a * 4 ^ suc l) c (2 ^ (k + k) * 4 ^ suc l) 1 C (pow_pos 0) scaled) (le_of_eq whole))
  where
    scaled : a * 4 ^ suc l * 1 ≤ 2 ^ (k + k) * 4 ^ suc l * c
    scaled = le_trans (le_of_eq (mul-one (a * 4 ^ suc l))) (le_trans (mul-le-mul_right (4 ^ suc l) h) (le_of_eq (mul_right_comm (2 ^ (k + k)) c (4 ^ suc l))))

    whole : 2 ^ (k + k) * 4 ^ suc l / 1 ≡ 2 ^ (k + suc l) * 2 ^ (k + suc l)
    whole = div-one (2 ^ (k + k) * 4 ^ suc l) ∙ rw (four_pow (suc l), pow-add 2 k k, pow-add 2 k (suc l)) (mul-mul-mul_comm (2 ^ k) (2 ^ k) (2 ^ suc l) (2 ^ suc l))

-- the rest adds one at most
root_of_below : (k a c : ℕ) → 0 < c → suc k ≤ bias → a ≤ 2 ^ (k + k) * c → Below (suc k) (root_of binary64 a c)
unfolding root_of
root_of_below k a c C K h =
    let l = low binary64 in
    let n = a * 4 ^ suc l in
    let q = root (n / c) in
    let r : ℕ = cond (eqb (q * q * c) n) 0 1 in
    let b = 2 ^ (k + suc l) in
    either_sign (round_within binary64 false (2 * q + r) (2 ^ (l + 2)) (suc k) (pow_pos (l + 2)) K
    (le_trans (last q b r (2 ^ suc (k + suc l)) (whole_le k l a c C h) (digit (eqb (q * q * c) n)) (pow_pos (k + suc l)) (two-pow-succ (k + suc l)))
    (le_of_eq (sym (two-pow-succ (suc (k + suc l))) ∙ ap (λ (z : ℕ). 2 ^ z) (sym (places k l)) ∙ pow-add 2 (suc k) (l + 2)))))
  where
    last : (q b r t : ℕ) → q ≤ b → r ≤ 1 → 1 ≤ b → t ≡ b + b → 2 * q + r ≤ t + t
    last q b r t h g i e = omega arith

    digit : (b : Bool) → cond {A = ℕ} b 0 1 ≤ 1
    digit true = zero-le
    digit false = le_of_eq refl

    places : (k l : ℕ) → suc k + (l + 2) ≡ suc (suc (k + suc l))
    places k l = omega arith

pub sqrt-below : {k : ℕ} {x : Float} → Within false (k + k) x → suc k ≤ bias → Below (suc k) (sqrt x)
unfolding sqrt square_root
sqrt-below {k} (within {m = zero} {e = e} h) K = below (le_trans (le_of_eq (zero-mul (up e))) zero-le)
sqrt-below {k} (within {m = suc m} {e = e} h) K = root_of_below k (suc m * up e) (down e) (down_pos e) K h
