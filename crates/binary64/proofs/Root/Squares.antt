-- Squares of even and of odd numbers, which say that r is nearest to the root of n exactly where n ≤ r(r + 1) and r(r - 1) < n.
use mathlib.Core.Path.{◌≡◌, ap, ◌∙◌}
use Prim.Native.Nat.{ℕ, zero, suc, ◌+◌, ◌-◌, ◌*◌, ◌≤◌, ◌<◌}
use native.Mathlib.Numerals.{add-one}
use native.Mathlib.Nat.{suc-mul, mul-suc, mul-add, add-mul}
use native.Mathlib.Omega.{arith}
use Rattle.binary64.specs.Nearest.{NearRoot}

pub next_times : (q : ℕ) → q * (q + 1) ≡ q * q + q
next_times q = ap (λ (x : ℕ). q * x) (add-one q) ∙ mul-suc q q

double_square : (q : ℕ) → (q + q) * (q + q) ≡ 4 * (q * q)
double_square q = simp (mul-add, add-mul) (omega arith)

pub even-square : (q : ℕ) → (2 * q) * (2 * q) ≡ 4 * (q * q)
even-square q = let d : 2 * q ≡ q + q = omega arith in ap (λ (x : ℕ). x * x) d ∙ double_square q

odd_square : (q : ℕ) → (2 * q + 1) * (2 * q + 1) ≡ 4 * (q * q + q) + 1
odd_square q =
    let s : (2 * q) * (2 * q) ≡ 4 * (q * q) = even-square q in
    let e : (2 * q + 1) * (2 * q + 1) ≡ suc (2 * q) * suc (2 * q) = ap (λ (x : ℕ). x * x) (add-one (2 * q)) in
    let f : suc (2 * q) * suc (2 * q) ≡ suc (2 * q) * (2 * q) + suc (2 * q) = mul-suc (suc (2 * q)) (2 * q) in
    let g : suc (2 * q) * (2 * q) ≡ 2 * q * (2 * q) + 2 * q = suc-mul (2 * q) (2 * q) in
    omega arith

pub near-between : (n r : ℕ) → 1 ≤ r → n ≤ r * (r + 1) → r * (r + 1) < n + 2 * r → NearRoot n r
near-between n zero h a b = absurd (no h)
  where
    no : 1 ≤ 0 → ⊥
    no g = omega arith
near-between n (suc q) h a b =
    let r = suc q in
    let p : r * (r + 1) ≡ r * r + r = next_times r in
    let s : r * r ≡ r * q + r = mul-suc r q in
    let t : r * q ≡ q * q + q = suc-mul q q in
    let e : 2 * r - 1 ≡ 2 * q + 1 = omega arith in
    let x : (2 * r - 1) * (2 * r - 1) ≡ 4 * (q * q + q) + 1 = ap (λ (y : ℕ). y * y) e ∙ odd_square q in
    let y : (2 * r + 1) * (2 * r + 1) ≡ 4 * (r * r + r) + 1 = odd_square r in
    record { above = omega arith; below = omega arith }
