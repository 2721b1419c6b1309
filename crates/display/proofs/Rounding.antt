-- From the code's words to the definition: of a numerator cut two places or more below the quotient's last digit only something or nothing need be kept
-- (`jam_closest`), and equal fractions round alike (`closest_same`).
use mathlib.Core.Path.{◌≡◌, sym, ap, ◌∙◌}
use Prim.Native.Nat.{ℕ, ◌+◌, ◌-◌, ◌*◌, ◌/◌, ◌%◌, ◌^◌, ◌≤◌, ◌<◌}
use native.Mathlib.Nat.{mul_right_comm, mul_assoc, mul-pos, mod-lt}
use native.Mathlib.Omega.{arith}
use lib.Pow.{pow-add, pow_pos}
use lib.Ieee.Nearest.{closest, closest_same}
use Rattle.fused_integer.specs.Jam.{Jam}
use Rattle.fused_integer.proofs.Laws.Jam.{jam_closest}
use Rattle.display.specs.Display.{nano, nanohenries}

-- t digits at a place p from 980 to 1041, m their product with 10^9 in units of 2^31: the shift of the code is 1043 - p
pub from-units : (t p m : ℕ) → 980 ≤ p → p ≤ 1041 → Jam (t * nano) (2 ^ 31) m → closest m (2 ^ (1043 - p)) ≡ nanohenries (t * 2 ^ p) (2 ^ 1074)
unfolding nanohenries
from-units t p m lo hi j =
    let k = 1041 - p in
    let den = 2 ^ 31 * (2 ^ k * 4) in
    let shift : 1043 - p ≡ k + 2 = omega arith in
    let all : p + (31 + (k + 2)) ≡ 1074 = omega arith in
    let whole : 2 ^ 1074 ≡ 2 ^ p * den =
    ap (λ (x : ℕ). 2 ^ x) (sym all) ∙ pow-add 2 p (31 + (k + 2)) ∙ ap (λ (x : ℕ). 2 ^ p * x) (pow-add 2 31 (k + 2) ∙ ap (λ (x : ℕ). 2 ^ 31 * x) (pow-add 2 k 2)) in
    ap (λ (x : ℕ). closest m x) (ap (λ (x : ℕ). 2 ^ x) shift ∙ pow-add 2 k 2)
    ∙ sym (jam_closest (t * nano) (2 ^ 31) m (2 ^ k) (pow_pos 31) (pow_pos k) j)
    ∙ closest_same (t * nano) den (t * 2 ^ p * nano) (2 ^ 1074) (mul-pos (pow_pos 31) (mul-pos (pow_pos k) (omega arith))) (pow_pos 1074)
    (ap (λ (x : ℕ). t * nano * x) whole ∙ sym (mul_assoc (t * nano) (2 ^ p) den) ∙ ap (λ (x : ℕ). x * den) (mul_right_comm t nano (2 ^ p)))

-- ---- the product with 10^9, by words
abbrev upper : ℕ → ℕ
upper t = t / 2 ^ 32 * nano + t % 2 ^ 32 * nano / 2 ^ 32

abbrev lower : ℕ → ℕ
lower t = t % 2 ^ 32 * nano % 2 ^ 32

product : (t : ℕ) → t * nano ≡ upper t * 2 ^ 32 + lower t
product t = omega arith

cut_exact : (v u : ℕ) → v ≡ u * 2 ^ 32 + 0 → Jam v (2 ^ 31) (u * 2)
cut_exact v u e = record { above = omega arith; below = omega arith; exact = λ h. omega arith }

cut_odd : (v u l : ℕ) → v ≡ u * 2 ^ 32 + l → l < 2 ^ 32 → (l ≡ 0 → ⊥) → Jam v (2 ^ 31) (u * 2 + 1)
cut_odd v u l e h n = record { above = omega arith; below = omega arith; exact = λ k. absurd (clash u k) }
  where
    clash : (u : ℕ) → (u * 2 + 1) % 2 ≡ 0 → ⊥
    clash u k = omega arith

pub units-exact : (t : ℕ) → lower t ≡ 0 → Jam (t * nano) (2 ^ 31) (upper t * 2)
units-exact t e = cut_exact (t * nano) (upper t) (product t ∙ ap (λ (x : ℕ). upper t * 2 ^ 32 + x) e)

pub units_odd : (t : ℕ) → (lower t ≡ 0 → ⊥) → Jam (t * nano) (2 ^ 31) (upper t * 2 + 1)
units_odd t n = cut_odd (t * nano) (upper t) (lower t) (product t) (mod-lt (t % 2 ^ 32 * nano) (pow_pos 32)) n
