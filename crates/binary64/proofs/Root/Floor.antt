-- `root` is the whole part of the root: one more digit of the root for two more of n, by induction on the digits.
use mathlib.Core.Path.{◌≡◌, refl, sym, ap, ◌∙◌, subst}
use Prim.Native.Nat.{ℕ, zero, suc, ◌+◌, ◌*◌, ◌/◌, ◌^◌, ◌≤◌, ◌<◌, zero-le}
use native.Mathlib.Nat.{le_trans, le_of_eq, lt_of_lt_of_le, mul-mul-mul_comm, mul-le-mul, mul-one, pow-suc, div-lt_iff_lt-mul, zero-lt-suc}
use native.Mathlib.Omega.{arith}
use mathlib.Core.Bool.{Bool, true, false, not, cond}
use lib.Dec.{T, leb, leb→le, nleb→lt}
use lib.Pow.{pow_pos}
use lib.Ieee.{size}
use lib.Ieee.Digits.{size-lt}
use Rattle.binary64.specs.Operations.{root_in, root}
use Rattle.binary64.proofs.Root.Squares.{even-square}

-- q is the whole part of the root of n
abbrev pub Floor : ℕ → ℕ → Type 0
Floor n q = (q * q ≤ n) × (n < (q + 1) * (q + 1))

up_one : (p n : ℕ) → Floor (n / 4) p → (2 * p + 1) * (2 * p + 1) ≤ n → Floor n (2 * p + 1)
up_one p n f h =
    let e : 2 * p + 1 + 1 ≡ 2 * (p + 1) = omega arith in
    let s : (2 * p + 1 + 1) * (2 * p + 1 + 1) ≡ 4 * ((p + 1) * (p + 1)) = ap (λ (x : ℕ). x * x) e ∙ even-square (p + 1) in
    let b : n / 4 < (p + 1) * (p + 1) = f.1 in
    (h, omega arith)

stay : (p n : ℕ) → Floor (n / 4) p → n < (2 * p + 1) * (2 * p + 1) → Floor n (2 * p)
stay p n f h =
    let s : (2 * p) * (2 * p) ≡ 4 * (p * p) = even-square p in
    let b : p * p ≤ n / 4 = f.0 in
    (omega arith, h)

start : (n : ℕ) → n < 1 → Floor n 0
start n h = (zero-le, h)

root_in_floor : (d n : ℕ) → n < 4 ^ d → Floor n (root_in d n)
unfolding root_in
root_in_floor zero n h = start n h
root_in_floor (suc d) n h =
    go (root_in d (n / 4)) (root_in_floor d (n / 4) ((div-lt_iff_lt-mul (zero-lt-suc 3)).1 (subst (λ (x : ℕ). n < x) (pow-suc 4 d) h)))
  where
    pick : (p : ℕ) (b : Bool) → (T b → (2 * p + 1) * (2 * p + 1) ≤ n) → (T (not b) → n < (2 * p + 1) * (2 * p + 1)) → Floor (n / 4) p → Floor n (cond b (2 * p + 1) (2 * p))
    pick p true y z f = up_one p n f (y tt)
    pick p false y z f = stay p n f (z tt)

    go : (p : ℕ) → Floor (n / 4) p → Floor n (cond (leb ((2 * p + 1) * (2 * p + 1)) n) (2 * p + 1) (2 * p))
    go p f = pick p (leb ((2 * p + 1) * (2 * p + 1)) n) (leb→le ((2 * p + 1) * (2 * p + 1)) n) (nleb→lt ((2 * p + 1) * (2 * p + 1)) n) f

pub four_pow : (k : ℕ) → 4 ^ k ≡ 2 ^ k * 2 ^ k
four_pow zero = refl
four_pow (suc k) = pow-suc 4 k ∙ ap (λ (x : ℕ). x * 4) (four_pow k) ∙ mul-mul-mul_comm (2 ^ k) (2 ^ k) 2 2 ∙ (λ i. sym (pow-suc 2 k) i * sym (pow-suc 2 k) i)

four-above : (k : ℕ) → 2 ^ k ≤ 4 ^ k
four-above k = le_trans (le_of_eq (sym (mul-one (2 ^ k)))) (le_trans (subst (λ (x : ℕ). 2 ^ k * 1 ≤ x) refl (mul-le-mul (le_of_eq refl) (pow_pos k))) (le_of_eq (sym (four_pow k))))

pub root_floor : (n : ℕ) → Floor n (root n)
unfolding root
root_floor n = root_in_floor (size n) n (lt_of_lt_of_le (size-lt n) (four-above (size n)))
