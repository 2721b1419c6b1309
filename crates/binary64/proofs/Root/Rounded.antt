-- The root of v / 2 ^ low, rounded: r * 2 ^ K units, where r is the whole number nearest to the root in units of 2 ^ K. The digit behind the whole part keeps `round` on the right side of a midpoint.
use mathlib.Core.Path.{◌≡◌, refl, sym, ap, ◌∙◌, subst}
use mathlib.Core.Logic.{◌⊎◌, inl, inr}
use Prim.Native.Nat.{ℕ, suc, ◌+◌, ◌-◌, ◌*◌, ◌/◌, ◌^◌, ◌≤◌, ◌<◌}
use native.Mathlib.Nat.{le_trans, le_of_eq, le_of_lt, lt_of_lt_of_le, lt_of_le_of_lt, lt_of_not-le, not-le_of_lt, mul_assoc, mul_comm, mul_left_comm, mul_right_comm, mul-mul-mul_comm, suc-mul, add-mul, one-mul, mul-le-mul, mul-le-mul_right, mul-lt-mul_of_pos_right, mul-pos, mul-div-mul_right, mul-div_cancel, eq_of_mul-eq-mul_right, pow-suc, zero-lt-suc}
use native.Mathlib.Omega.{arith}
use mathlib.Core.Bool.{Bool, true, false, cond}
use lib.Dec.{T, eqb, eqb→eq}
use lib.Pow.{pow-add, pow_pos}
use lib.Ieee.{Format, prec, low, size, units, round}
use lib.Ieee.Fits.{round_is, two, two-le_pos}
use lib.Ieee.Nearest.{closest}
use Rattle.binary64.proofs.Pattern.{less_one}
use Rattle.binary64.proofs.Size.{size_is}
use Rattle.binary64.specs.Operations.{root, root_of}
use Rattle.binary64.proofs.Root.Floor.{Floor, root_floor, four_pow}
use Rattle.binary64.proofs.Whole.{closest_is}

-- ---- squares
pub square-lt : (x y : ℕ) → x * x < y * y → x < y
square-lt x y h = lt_of_not-le (λ (g : y ≤ x). not-le_of_lt h (mul-le-mul g g))

-- the digits that `round` drops
drops : (p K num : ℕ) → 0 < p → 2 * 2 ^ (p + K) ≤ num → num < 4 * 2 ^ (p + K) → size (num / 4) - p ≡ K
drops p K num P a b =
    let j = p - 1 + K in
    let e : suc j ≡ p + K = less_one p K P in
    let t : 2 ^ (p + K) ≡ 2 ^ j * 2 = ap (λ (x : ℕ). 2 ^ x) (sym e) ∙ pow-suc 2 j in
    let h : num / 4 < 2 ^ (p + K) = omega arith in
    let z : size (num / 4) ≡ suc j = size_is (num / 4) j (omega arith) (subst (λ (x : ℕ). num / 4 < 2 ^ x) (sym e) h) in
    omega arith

-- num / 4 units, between 2 ^ (prec - 1 + K) and 2 ^ (prec + K), within half of 2 ^ K of r * 2 ^ K
rounds : (f : Format) (num r K : ℕ) → 2 * 2 ^ (prec f + K) ≤ num → num < 4 * 2 ^ (prec f + K) → 4 * (r * 2 ^ K) < num + 2 * 2 ^ K → num < 4 * (r * 2 ^ K) + 2 * 2 ^ K
    → round f false num (2 ^ (low f + 2)) ≡ units f false r K
rounds f num r K a b lo hi =
    let p = prec f in
    let L = 2 ^ low f in
    let W = 2 ^ K in
    let d : 2 ^ (low f + 2) ≡ 4 * L = pow-add 2 (low f) 2 ∙ mul_comm L 4 in
    let v4 : num * L / 2 ^ (low f + 2) ≡ num / 4 = ap (λ (x : ℕ). num * L / x) d ∙ mul-div-mul_right num 4 (pow_pos (low f)) in
    let k : size (num * L / 2 ^ (low f + 2)) - p ≡ K = ap (λ (x : ℕ). size x - p) v4 ∙ drops p K num (two-le_pos p (two f)) a b in
    let u : 2 ^ (low f + 2) * W ≡ 4 * W * L = ap (λ (x : ℕ). x * W) d ∙ mul_right_comm 4 L W in
    let x : r * (4 * W * L) ≡ 4 * (r * W) * L = sym (mul_assoc r (4 * W) L) ∙ ap (λ (y : ℕ). y * L) (mul_left_comm r 4 W) in
    let lo' : 4 * (r * W) * L < (num + 2 * W) * L = mul-lt-mul_of_pos_right lo (pow_pos (low f)) in
    let hi' : num * L < (4 * (r * W) + 2 * W) * L = mul-lt-mul_of_pos_right hi (pow_pos (low f)) in
    let lo2 : (num + 2 * W) * L ≡ num * L + 2 * W * L = add-mul num (2 * W) L in
    let hi2 : (4 * (r * W) + 2 * W) * L ≡ 4 * (r * W) * L + 2 * W * L = add-mul (4 * (r * W)) (2 * W) L in
    let w2 : 2 * W * L ≡ 2 * (W * L) = mul_assoc 2 W L in
    let w4 : 4 * W * L ≡ 4 * (W * L) = mul_assoc 4 W L in
    let U : 0 < 4 * W * L = mul-pos (mul-pos (zero-lt-suc 3) (pow_pos K)) (pow_pos (low f)) in
    let c : closest (num * L) (4 * W * L) ≡ r = closest_is (num * L) (4 * W * L) r U (omega arith) (omega arith) in
    round_is f false num (2 ^ (low f + 2))
    ∙ ap (λ (y : ℕ). units f false (closest (num * L) (2 ^ (low f + 2) * 2 ^ y)) y) k
    ∙ ap (λ (y : ℕ). units f false (closest (num * L) y) K) u
    ∙ ap (λ (y : ℕ). units f false y K) c

-- ---- `root_of`
Sticky : ℕ → ℕ → ℕ → Type 0
Sticky q X t = ((t ≡ 0) × (q * q ≡ X)) ⊎ (t ≡ 1)

sticky : (q X c n : ℕ) → 0 < c → n ≡ X * c → Sticky q X (cond (eqb (q * q * c) n) 0 1)
unfolding Sticky
sticky q X c n C e = go (eqb (q * q * c) n) (eqb→eq (q * q * c) n)
  where
    go : (b : Bool) → (T b → q * q * c ≡ n) → Sticky q X (cond b 0 1)
    go true h = inl (refl, eq_of_mul-eq-mul_right c C (q * q) X (h tt ∙ e))
    go false h = inr refl

-- in numbers: W is 2 ^ K, P is 2 ^ (prec + K), A is r * W, and x and y are the two midpoints in halves
module _ (q t X W P A x y : ℕ) (f : Floor X q) (s : Sticky q X t) (big : P * P ≤ X) (lo : x * x < X) (hi : X < y * y) (ex : x + W ≡ 2 * A) (ey : y ≡ 2 * A + W) (top : A + W ≤ P) where
  enough : P ≤ q
  enough = let g : P < q + 1 = square-lt P (q + 1) (lt_of_le_of_lt big f.1) in omega arith

  under_y : q < y
  under_y = square-lt q y (lt_of_le_of_lt f.0 hi)

  over_x : 2 * x < 2 * q + t
  unfolding Sticky
  over_x = elim s [
    | inl e ↦ exact e.0 (square-lt x q (subst (λ (z : ℕ). x * x < z) (sym e.1) lo))
    | inr e ↦ more e (square-lt x (q + 1) (lt_of_le_of_lt (le_of_lt lo) f.1))
  ]
    where
      exact : t ≡ 0 → x < q → 2 * x < 2 * q + t
      exact e h = omega arith

      more : t ≡ 1 → x < q + 1 → 2 * x < 2 * q + t
      more e h = omega arith

  digit : t ≤ 1
  unfolding Sticky
  digit = elim s [ inl e ↦ zero_case e.0 | inr e ↦ one_case e ]
    where
      zero_case : t ≡ 0 → t ≤ 1
      zero_case e = omega arith

      one_case : t ≡ 1 → t ≤ 1
      one_case e = omega arith

  all : (2 * P ≤ 2 * q + t) × (2 * q + t < 4 * P) × (4 * A < 2 * q + t + 2 * W) × (2 * q + t < 4 * A + 2 * W)
  all =
      let a = enough in
      let b = under_y in
      let c = over_x in
      let d = digit in
      (omega arith, omega arith, omega arith, omega arith)

-- a / c is v / 2 ^ low
scaled_up : (a c v L : ℕ) → a * L ≡ v * c → a * (L * L * 4) ≡ 4 * (v * L) * c
scaled_up a c v L e =
    let s : a * (L * L * 4) ≡ a * L * (L * 4) = simp (mul_assoc, mul_comm, mul_left_comm) refl in
    let t : v * c * (L * 4) ≡ 4 * (v * L) * c = simp (mul_assoc, mul_comm, mul_left_comm) refl in
    s ∙ ap (λ (z : ℕ). z * (L * 4)) e ∙ t

low_mid : (r W : ℕ) → 1 ≤ r → (2 * r - 1) * W + W ≡ 2 * (r * W)
low_mid r W h =
    let e : suc (2 * r - 1) ≡ 2 * r = omega arith in
    sym (suc-mul (2 * r - 1) W) ∙ ap (λ (z : ℕ). z * W) e ∙ mul_assoc 2 r W

high_mid : (r W : ℕ) → (2 * r + 1) * W ≡ 2 * (r * W) + W
high_mid r W = add-mul (2 * r) 1 W ∙ (λ i. mul_assoc 2 r W i + one-mul W i)

pub root_of_is : (f : Format) (a c v r K : ℕ) → 0 < c → a * 2 ^ low f ≡ v * c → 1 ≤ r → r < 2 ^ prec f → 2 ^ (prec f + K) * 2 ^ (prec f + K) ≤ 4 * (v * 2 ^ low f)
    → (2 * r - 1) * (2 * r - 1) * (2 ^ K * 2 ^ K) < 4 * (v * 2 ^ low f) → 4 * (v * 2 ^ low f) < (2 * r + 1) * (2 * r + 1) * (2 ^ K * 2 ^ K) → root_of f a c ≡ units f false r K
unfolding root_of
root_of_is f a c v r K C e one small big lo hi =
    let L = 2 ^ low f in
    let W = 2 ^ K in
    let X = 4 * (v * L) in
    let n = a * 4 ^ suc (low f) in
    let nX : n ≡ X * c = ap (λ (z : ℕ). a * z) (pow-suc 4 (low f) ∙ ap (λ (z : ℕ). z * 4) (four_pow (low f))) ∙ scaled_up a c v L e in
    let dX : n / c ≡ X = ap (λ (z : ℕ). z / c) nX ∙ mul-div_cancel X C in
    let q = root (n / c) in
    let t : ℕ = cond (eqb (q * q * c) n) 0 1 in
    let fl : Floor X q = subst (λ (z : ℕ). Floor z q) dX (root_floor (n / c)) in
    let st : Sticky q X t = sticky q X c n C nX in
    let top : r * W + W ≤ 2 ^ (prec f + K) = le_trans (le_of_eq (sym (suc-mul r W))) (le_trans (mul-le-mul_right W small) (le_of_eq (sym (pow-add 2 (prec f) K)))) in
    let b = all q t X W (2 ^ (prec f + K)) (r * W) ((2 * r - 1) * W) ((2 * r + 1) * W) fl st big
    (lt_of_le_of_lt (le_of_eq (mul-mul-mul_comm (2 * r - 1) W (2 * r - 1) W)) lo)
    (lt_of_lt_of_le hi (le_of_eq (sym (mul-mul-mul_comm (2 * r + 1) W (2 * r + 1) W))))
    (low_mid r W one) (high_mid r W) top in
    rounds f (2 * q + t) r K b.0 b.1 b.2 b.3
