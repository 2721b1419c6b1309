-- The interval of `near_root`: the whole number nearest to the root of m * 2 ^ 52 is from r on and below r + w. Each turn halves w, so that w is 2 ^ (52 - i) after i of them, and 52 suffice.
use Rattle.std.proofs.Common.{◌≡◌, ℕ, suc, ◌+◌, ◌-◌, ◌*◌, ◌/◌, ◌^◌, ◌<◌, ◌≤◌, ap, ◌∙◌, subst, div-lt_iff_lt-mul, add-mul, pow-suc, le-div_iff_mul-le, mul-add, arith, pow_pos}
use Rattle.binary64.specs.Nearest.{NearRoot, Scaled, Digits}
use Rattle.binary64.proofs.Root.Squares.{near-between}

-- the digits of q * (q + 1) above 2 ^ 52
abbrev pub high : ℕ → ℕ
high q = q * (q + 1) / 2 ^ 52

abbrev pub Interval : ℕ → ℕ → ℕ → ℕ → Type 0
Interval m i r w = (i ≤ 52) × (w ≡ 2 ^ (52 - i)) × (2 ^ 52 ≤ r) × (r + w ≤ 2 ^ 53) × (high (r - 1) < m) × (m ≤ high (r + w - 1))

pub start : (m : ℕ) → Scaled m → Interval m 0 (2 ^ 52) (2 ^ 52)
start m s = let l = s.low in let h = s.high in (omega arith, omega arith, omega arith, omega arith, omega arith, omega arith)

-- ---- one turn
half_width : (i w : ℕ) → i < 52 → w ≡ 2 ^ (52 - i) → (w / 2 ≡ 2 ^ (52 - (i + 1))) × (w / 2 + w / 2 ≡ w)
half_width i w h e =
    let k : 52 - i ≡ suc (52 - (i + 1)) = omega arith in
    let p : w ≡ 2 ^ (52 - (i + 1)) * 2 = e ∙ ap (λ (x : ℕ). 2 ^ x) k ∙ pow-suc 2 (52 - (i + 1)) in
    (omega arith, omega arith)

pub lower-half : (m i r w : ℕ) → Interval m i r w → i < 52 → m ≤ high (r + w / 2 - 1) → Interval m (i + 1) r (w / 2)
lower-half m i r w (n, e, f, t, a, b) h k = let (x, y) = half_width i w h e in (omega arith, x, f, omega arith, a, k)

pub upper-half : (m i r w : ℕ) → Interval m i r w → i < 52 → high (r + w / 2 - 1) < m → Interval m (i + 1) (r + w / 2) (w / 2)
upper-half m i r w (n, e, f, t, a, b) h k =
    let (x, y) = half_width i w h e in
    let z : r + w ≡ r + w / 2 + w / 2 = omega arith in
    (omega arith, x, omega arith, omega arith, k, subst (λ (v : ℕ). m ≤ high (v - 1)) z b)

-- ---- the end
pub last : (m i r w : ℕ) → Interval m i r w → 52 ≤ i → Digits r × NearRoot (m * 2 ^ 52) r
last m i r w (n, e, f, t, a, b) h =
    let k : 52 - i ≡ 0 = omega arith in
    let one : w ≡ 1 = e ∙ ap (λ (x : ℕ). 2 ^ x) k in
    let z : r + w - 1 ≡ r = omega arith in
    let back : r - 1 + 1 ≡ r = omega arith in
    let lo : (r - 1) * (r - 1 + 1) < m * 2 ^ 52 = (div-lt_iff_lt-mul (pow_pos 52)).0 a in
    let hi : m * 2 ^ 52 ≤ r * (r + 1) = (le-div_iff_mul-le (pow_pos 52)).0 (subst (λ (x : ℕ). m ≤ high x) z b) in
    let p : r * (r + 1) ≡ (r - 1) * (r - 1 + 1) + 2 * r = subst (λ (x : ℕ). x * (x + 1) ≡ (r - 1) * (r - 1 + 1) + 2 * x) back (next_product (r - 1)) in
    (record { low = f; high = omega arith }, near-between (m * 2 ^ 52) r (omega arith) hi (omega arith))
  where
    next_product : (q : ℕ) → (q + 1) * (q + 1 + 1) ≡ q * (q + 1) + 2 * (q + 1)
    next_product q = simp (mul-add, add-mul) (omega arith)
