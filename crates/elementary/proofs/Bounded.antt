-- atan2 of two finite numbers is finite: below 2 ^ 70, which is not sharp. The ratio of the smaller to the larger is at most 1, so u is at most 2 and z = u × u at most 4; each of Q's 22 steps then adds three
-- powers of two at most.
use mathlib.Core.Path.{◌≡◌, refl, sym, ap, ◌∙◌}
use mathlib.Core.Bool.{Bool, true, false, cond, ◌&&◌, true≢false, false≢true}
use Prim.Native.Nat.{ℕ, zero, suc, ◌+◌, ◌*◌, ◌^◌, ◌≤◌, ◌<◌, zero-le}
use native.Mathlib.Nat.{le_trans, le_of_eq, lt_of_le_of_lt, zero-lt-suc, one-mul, mul-one, zero-mul}
use native.Mathlib.Omega.{arith}
use lib.IntN.{ℤ}
use lib.Dec.{ltb, lit≤}
use lib.Pow.{pow_pos}
use lib.Ieee as Ieee
use lib.Ieee.{Float, inf, fin, binary64, up, down, sum, add, lt, eq, is_nan, of_int, of_bits}
use lib.Ieee.Fits.{down_pos}
use lib.Ieee.Positive.{first_pos}
use borrow.Author.Tests.{ltb-true, ltb-false, eq-eqb}
use Rattle.binary64.specs.Binary64.{◌⊕◌, ◌⊖◌, ◌⊘◌, plus_zero, one, two, four, π}
use Rattle.ieee754.specs.Ieee754.{sign_bit, abs}
use Rattle.elementary.specs.Elementary.{C, horner, reciprocal, reciprocals, Q, ratio, atan_at, atan, first_quadrant, supplement, atan2}
use Rattle.binary64.proofs.Bounded.{Within, within, Below, below, AtLeastOne, at_least, wider, round_at_least, mul-below, add-below, sub-below, quotient_below, over_one}
use Rattle.ieee754.proofs.Bounded.{signed_below}

-- ---- constants

pub zero_below : Below 0 plus_zero
unfolding of_bits
zero_below = below (lit≤ tt)

one_below : Below 0 one
unfolding of_bits
one_below = below (lit≤ tt)

pub two-below : Below 1 two
unfolding of_bits
two-below = below (lit≤ tt)

π-below : Below 2 π
unfolding of_bits
π-below = below (lit≤ tt)

two_at_least : AtLeastOne two
unfolding of_bits
two_at_least = at_least (lit≤ tt)

four_at_least : AtLeastOne four
unfolding of_bits
four_at_least = at_least (lit≤ tt)

-- ---- Q

reciprocal-below : (k : ℕ) → 1 ≤ k → k ≤ 2 ^ 6 → Below 0 (reciprocal k)
unfolding reciprocal of_int
reciprocal-below k l h = over_one one_below (round_at_least binary64 false k 1 6 (pow_pos 0) (lit≤ tt) (le_trans h (le_of_eq (sym (mul-one (2 ^ 6))))) l) (lit≤ tt)

horner-below : (n j k : ℕ) {z p : Float} → n ≤ 31 → j + 3 * n ≤ k → k ≤ 1023 → Below 2 z → Below j p → Below k (horner (Ieee.sub binary64) z (reciprocals n) p)
unfolding horner reciprocals
horner-below zero j k N J K Z P = wider (none j k J) P
  where
    none : (j k : ℕ) → j + 3 * 0 ≤ k → j ≤ k
    none j k h = omega arith
horner-below (suc n) j k N J K Z P =
    horner-below n (suc (2 + j)) k (less n N) (next j n k J) K Z
    (sub-below (wider zero-le (reciprocal-below (2 * n + 1) (some n) (small n N))) (mul-below Z P (room j n k J K)) (room_next j n k J K))
  where
    less : (n : ℕ) → suc n ≤ 31 → n ≤ 31
    less n h = omega arith

    some : (n : ℕ) → 1 ≤ 2 * n + 1
    some n = omega arith

    small : (n : ℕ) → suc n ≤ 31 → 2 * n + 1 ≤ 64
    small n h = omega arith

    next : (j n k : ℕ) → j + 3 * suc n ≤ k → suc (2 + j) + 3 * n ≤ k
    next j n k h = omega arith

    room : (j n k : ℕ) → j + 3 * suc n ≤ k → k ≤ 1023 → 2 + j ≤ 1023
    room j n k h l = omega arith

    room_next : (j n k : ℕ) → j + 3 * suc n ≤ k → k ≤ 1023 → suc (2 + j) ≤ 1023
    room_next j n k h l = omega arith

Q-below : {z : Float} → Below 2 z → Below 66 (Q z)
unfolding Q
Q-below Z = horner-below 22 0 66 (lit≤ tt) (lit≤ tt) (lit≤ tt) Z (reciprocal-below 45 (lit≤ tt) (lit≤ tt))

-- ---- the ratio

-- of two that are not both zero the larger is not
some : (m n : ℕ) (e d : ℤ) → eq (fin false m e) plus_zero && eq (fin false n d) plus_zero ≡ false → m * up e * down d ≤ n * up d * down e → 0 < n
unfolding eq of_bits
some m (suc n) e d x h = zero-lt-suc n
some m zero e d x h =
    let a : m * up e * 1 ≡ 0 * 1 * down e = nought (m * up e) (down d) (0 * up d * down e) (down e) (down_pos d) (ap (λ (z : ℕ). z * down e) (zero-mul (up d)) ∙ zero-mul (down e)) h in
    let b : 0 * up d * 1 ≡ 0 * 1 * down d = ap (λ (z : ℕ). z * 1) (zero-mul (up d)) ∙ sym (zero-mul (down d)) in
    absurd (true≢false (sym (rw (eq-eqb (m * up e * 1) (0 * 1 * down e) a, eq-eqb (0 * up d * 1) (0 * 1 * down d) b)) ∙ x))
  where
    nought : (a b c d : ℕ) → 0 < b → c ≡ 0 → a * b ≤ c → a * 1 ≡ 0 * 1 * d
    nought zero b c d B e h = sym (zero-mul d)
    nought (suc a) b c d B e h = absurd (clash (suc a * b) c (native.Mathlib.Nat.mul-pos (zero-lt-suc a) B) e h)
      where
        clash : (x c : ℕ) → 0 < x → c ≡ 0 → x ≤ c → ⊥
        clash x c h e l = omega arith

ratio-below : {j k : ℕ} {a b : Float} → Within false j a → Within false k b → Below 0 (ratio a b)
unfolding ratio lt
ratio-below (within {m = m} {e = e} h) (within {m = n} {e = d} g) =
    go (eq (fin false m e) plus_zero && eq (fin false n d) plus_zero) (eq (fin false m e) (inf false) && eq (fin false n d) (inf false)) (Ieee.lt (fin false n d) (fin false m e)) refl refl
  where
    go : (x y z : Bool) → eq (fin false m e) plus_zero && eq (fin false n d) plus_zero ≡ x → ltb (n * up d * down e) (m * up e * down d) ≡ z
        → Below 0 (cond x plus_zero (cond y one (cond z (fin false n d ⊘ fin false m e) (fin false m e ⊘ fin false n d))))
    go true y z X Z = zero_below
    go false true z X Z = one_below
    go false false true X Z =
        let A = m * up e * down d in
        let l : n * up d * down e < A = ltb-true (n * up d * down e) A Z in
        quotient_below false false 0 n m d e (first_pos m (up e) (first_pos (m * up e) (down d) (lt_of_le_of_lt zero-le l))) zero-le (le_trans (native.Mathlib.Nat.le_of_lt l) (le_of_eq (sym (one-mul A))))
    go false false false X Z =
        let B = n * up d * down e in
        let l : m * up e * down d ≤ B = ltb-false B (m * up e * down d) Z in
        quotient_below false false 0 m n e d (some m n e d X l) zero-le (le_trans l (le_of_eq (sym (one-mul B))))

-- ---- the angle

-- what is above C is not negative, and so with 1 added is 1 at least
next_at_least : {q : Float} → Below 0 q → lt C q ≡ true → AtLeastOne (q ⊕ one)
unfolding lt add sum of_bits
next_at_least (below {s = true} h) t = absurd (false≢true t)
next_at_least (below {s = false} {m = m} {e = e} h) t =
    round_at_least binary64 false (m * up e * 1 + 1 * 1 * down e) (down e * 1) 1 (native.Mathlib.Nat.mul-pos (down_pos e) (pow_pos 0)) (lit≤ tt) (most (m * up e) (down e) h) (least (m * up e) (down e))
  where
    most : (a c : ℕ) → a ≤ 1 * c → a * 1 + 1 * 1 * c ≤ 2 * (c * 1)
    most a c h = omega arith

    least : (a c : ℕ) → c * 1 ≤ a * 1 + 1 * 1 * c
    least a c = omega arith

atan_at-below : {b u : Float} → Below 2 b → Below 1 u → Below 68 (atan_at b u)
unfolding atan_at
atan_at-below B U = add-below (wider (lit≤ tt) B) (mul-below U (Q-below (mul-below U U (lit≤ tt))) (lit≤ tt)) (lit≤ tt)

atan-below : {q : Float} → Below 0 q → Below 68 (atan q)
unfolding atan
atan-below {q} h = go (lt C q) refl
  where
    go : (t : Bool) → lt C q ≡ t → Below 68 (cond t (atan_at (π ⊘ four) ((q ⊖ one) ⊘ (q ⊕ one))) (atan_at plus_zero q))
    go true t = atan_at-below (over_one π-below four_at_least (lit≤ tt)) (over_one (sub-below h one_below (lit≤ tt)) (next_at_least h t) (lit≤ tt))
    go false t = atan_at-below (wider (lit≤ tt) zero_below) (wider (lit≤ tt) h)

first_quadrant-below : {j k : ℕ} {a b : Float} → Within false j a → Within false k b → Below 69 (first_quadrant a b)
unfolding first_quadrant
first_quadrant-below {a = a} {b = b} A B = go (lt b a) (atan-below (ratio-below A B))
  where
    go : (t : Bool) {r : Float} → Below 68 r → Below 69 (cond t (π ⊘ two ⊖ r) r)
    go true R = sub-below (wider (lit≤ tt) (over_one π-below two_at_least (lit≤ tt))) R (lit≤ tt)
    go false R = wider (lit≤ tt) R

supplement-below : (s : Bool) {r : Float} → Below 69 r → Below 70 (supplement s r)
unfolding supplement
supplement-below true R = sub-below (wider (lit≤ tt) π-below) R (lit≤ tt)
supplement-below false R = wider (lit≤ tt) R

pub atan2-below : {j k : ℕ} {y x : Float} → Below j y → Below k x → Below 70 (atan2 y x)
unfolding atan2 is_nan abs sign_bit
atan2-below (below {s = s} h) (below {s = t} g) = signed_below s (supplement-below t (first_quadrant-below (within h) (within g)))
