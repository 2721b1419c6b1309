-- Between two neighbouring halves of the format’s smallest value every fraction rounds alike: to what the one in the middle, q and a half of them, rounds to.
use mathlib.Core.Path.{◌≡◌, sym, ap, ◌∙◌}
use Prim.Native.Nat.{ℕ, ◌+◌, ◌-◌, ◌*◌, ◌/◌, ◌^◌, ◌≤◌, ◌<◌}
use native.Mathlib.Nat.{mul_assoc, mul_comm, mul_left_comm, mul_right_comm, add-mul, mul-le-mul_right, le_of_mul-le-mul_right, mul-pos, mul-div-mul_right, div-eq_of_lt-le, zero-lt-suc}
use native.Mathlib.Omega.{arith}
use mathlib.Core.Bool.{false}
use lib.Pow.{pow-add, pow_pos}
use lib.Ieee.{Format, prec, low, size, units, round}
use lib.Ieee.Fits.{round_is}
use lib.Ieee.Nearest.{closest}
use Rattle.binary64.specs.Nearest.{Near}
use Rattle.binary64.proofs.Whole.{closest_is, closest_near}

-- the whole part
module _ (q c L a : ℕ) (C : 0 < c) (lo : 2 * (q * c) < 4 * (a * L)) (hi : 4 * (a * L) < 2 * (q * c) + 2 * c) where
  whole_part : a * L / c ≡ q / 2
  whole_part =
      let s : 2 * (q / 2) ≤ q = omega arith in
      let t : q ≤ 2 * (q / 2) + 1 = omega arith in
      let s1 : 2 * (q / 2) * c ≤ q * c = mul-le-mul_right c s in
      let s2 : 2 * (q / 2) * c ≡ 2 * (q / 2 * c) = mul_assoc 2 (q / 2) c in
      let t1 : q * c ≤ (2 * (q / 2) + 1) * c = mul-le-mul_right c t in
      let t2 : (2 * (q / 2) + 1) * c ≡ 2 * (q / 2) * c + 1 * c = add-mul (2 * (q / 2)) 1 c in
      let u2 : (q / 2 + 1) * c ≡ q / 2 * c + 1 * c = add-mul (q / 2) 1 c in
      div-eq_of_lt-le c (omega arith) (omega arith)

  -- r * W is within half of W of q and a half, in halves: so is the fraction
  same_nearest : (W r : ℕ) → 0 < W → 2 * (r * W) ≤ q + W → q + 1 ≤ 2 * (r * W) + W → closest (a * L) (c * W) ≡ r
  same_nearest W r P x y =
      let x1 : 2 * (r * W) * c ≤ (q + W) * c = mul-le-mul_right c x in
      let x2 : (q + W) * c ≡ q * c + W * c = add-mul q W c in
      let y1 : (q + 1) * c ≤ (2 * (r * W) + W) * c = mul-le-mul_right c y in
      let y2 : (q + 1) * c ≡ q * c + 1 * c = add-mul q 1 c in
      let y3 : (2 * (r * W) + W) * c ≡ 2 * (r * W) * c + W * c = add-mul (2 * (r * W)) W c in
      let e : r * (c * W) ≡ r * W * c = ap (λ (z : ℕ). r * z) (mul_comm c W) ∙ sym (mul_assoc r W c) in
      let e2 : 2 * (r * W) * c ≡ 2 * (r * W * c) = mul_assoc 2 (r * W) c in
      let d : c * W ≡ W * c = mul_comm c W in
      closest_is (a * L) (c * W) r (mul-pos C P) (omega arith) (omega arith)

-- the middle itself
middle : (q L W r : ℕ) → 0 < L → Near (r * (4 * W * L)) ((2 * q + 1) * L) (4 * W * L) → (2 * (r * W) ≤ q + W) × (q + 1 ≤ 2 * (r * W) + W)
middle q L W r P h =
    let e : r * (4 * W * L) ≡ 4 * (r * W) * L = sym (mul_assoc r (4 * W) L) ∙ ap (λ (y : ℕ). y * L) (mul_left_comm r 4 W) in
    let n2 : 2 * ((2 * q + 1) * L) ≡ (4 * q + 2) * L = sym (mul_assoc 2 (2 * q + 1) L) ∙ ap (λ (z : ℕ). z * L) (twice q) in
    let r2 : 2 * (4 * (r * W) * L) ≡ 8 * (r * W) * L = sym (mul_assoc 2 (4 * (r * W)) L) ∙ ap (λ (z : ℕ). z * L) (sym (mul_assoc 2 4 (r * W))) in
    let x1 : (4 * q + 2 + 4 * W) * L ≡ (4 * q + 2) * L + 4 * W * L = add-mul (4 * q + 2) (4 * W) L in
    let y1 : (8 * (r * W) + 4 * W) * L ≡ 8 * (r * W) * L + 4 * W * L = add-mul (8 * (r * W)) (4 * W) L in
    let a = h.0 in
    let b = h.1 in
    let x : 8 * (r * W) ≤ 4 * q + 2 + 4 * W = le_of_mul-le-mul_right {k = L} (omega arith) P in
    let y : 4 * q + 2 ≤ 8 * (r * W) + 4 * W = le_of_mul-le-mul_right {k = L} (omega arith) P in
    (omega arith, omega arith)
  where
    twice : (q : ℕ) → 2 * (2 * q + 1) ≡ 4 * q + 2
    twice q = omega arith

pub between : (f : Format) (q a c : ℕ) → 0 < c → 2 * (q * c) < 4 * (a * 2 ^ low f) → 4 * (a * 2 ^ low f) < 2 * (q * c) + 2 * c → round f false a c ≡ round f false (2 * q + 1) (2 ^ (low f + 2))
between f q a c C lo hi =
    let L = 2 ^ low f in
    let D = 2 ^ (low f + 2) in
    let d : D ≡ 4 * L = pow-add 2 (low f) 2 ∙ mul_comm L 4 in
    let k = size (q / 2) - prec f in
    let W = 2 ^ k in
    let v1 : a * L / c ≡ q / 2 = whole_part q c L a C lo hi in
    let half : (2 * q + 1) / 4 ≡ q / 2 = omega arith in
    let v2 : (2 * q + 1) * L / D ≡ q / 2 = ap (λ (x : ℕ). (2 * q + 1) * L / x) d ∙ mul-div-mul_right (2 * q + 1) 4 (pow_pos (low f)) ∙ half in
    let u : D * W ≡ 4 * W * L = ap (λ (x : ℕ). x * W) d ∙ mul_right_comm 4 L W in
    let r = closest ((2 * q + 1) * L) (4 * W * L) in
    let U : 0 < 4 * W * L = mul-pos (mul-pos (zero-lt-suc 3) (pow_pos k)) (pow_pos (low f)) in
    let m = middle q L W r (pow_pos (low f)) (closest_near ((2 * q + 1) * L) (4 * W * L) U) in
    let s : closest (a * L) (c * W) ≡ r = same_nearest q c L a C lo hi W r (pow_pos k) m.0 m.1 in
    round_is f false a c
    ∙ ap (λ (x : ℕ). units f false (closest (a * L) (c * 2 ^ (size x - prec f))) (size x - prec f)) v1
    ∙ ap (λ (x : ℕ). units f false x k) s
    ∙ sym (ap (λ (x : ℕ). units f false (closest ((2 * q + 1) * L) x) k) u)
    ∙ sym (ap (λ (x : ℕ). units f false (closest ((2 * q + 1) * L) (D * 2 ^ (size x - prec f))) (size x - prec f)) v2)
    ∙ sym (round_is f false (2 * q + 1) D)
