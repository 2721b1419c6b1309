-- The shift is a power of two that fits a word, the test tells the two answers of `closest` apart, and the rest is `from-units`.
use mathlib.Core.Path.{◌≡◌, sym, ap, ◌∙◌}
use Prim.Native.Nat.{ℕ, ◌*◌, ◌-◌, ◌%◌, ◌^◌, ◌<◌, ◌≤◌}
use native.Mathlib.Nat.{one-mul, mod-eq_of_lt, mod-lt, div-le_self, lt_of_lt_of_le}
use native.Mathlib.Numerals.{add-one}
use native.Mathlib.Omega.{arith}
use lib.Pow.{pow_pos, pow_mono, pow-lt}
use lib.Ieee.Nearest.{closest}
use Rattle.binary64.proofs.Whole.{closest_stays, closest_next}
use Rattle.display.specs.Display as Spec
use Rattle.display.proofs.Rounding.{from-units}
use Rattle.display.proofs.nanohenries.Goals as goal

-- what the shift by 1043 - p leaves in a word
abbrev den : ℕ → ℕ
den p = 1 * 2 ^ (1043 - p) % 2 ^ 64

power : (p : ℕ) → 980 ≤ p → p ≤ 1041 → den p ≡ 2 ^ (1043 - p)
power p lo hi =
    let k : 1043 - p < 64 = omega arith in
    ap (λ (x : ℕ). x % 2 ^ 64) (one-mul (2 ^ (1043 - p))) ∙ mod-eq_of_lt (pow-lt k)

in_word : (p : ℕ) → 980 ≤ p → p ≤ 1041 → (0 < den p) × (den p ≤ 2 ^ 63)
in_word p lo hi =
    let k : 1043 - p ≤ 63 = omega arith in
    rw (power p lo hi) (pow_pos (1043 - p), pow_mono k)

pub nonzero_div-q : goal.nonzero_div-q
nonzero_div-q c =
    let divisor : (0 < den c.args.p) × (den c.args.p ≤ 2 ^ 63) = in_word c.args.p c.requires.1 c.requires.2 in
    divisor.0

pub overflow_mul-num : goal.overflow_mul-num
overflow_mul-num c =
    let divisor : (0 < den c.args.p) × (den c.args.p ≤ 2 ^ 63) = in_word c.args.p c.requires.1 c.requires.2 in
    let left_over : c.in_units-num.result % den c.args.p < 2 ^ 63 = lt_of_lt_of_le (mod-lt c.in_units-num.result divisor.0) divisor.1 in
    omega (arith, left_over)

pub overflow_add-num : goal.overflow_add-num
overflow_add-num c =
    let divisor : (0 < den c.args.p) × (den c.args.p ≤ 2 ^ 63) = in_word c.args.p c.requires.1 c.requires.2 in
    let left_over : c.in_units-num.result % den c.args.p < 2 ^ 63 = lt_of_lt_of_le (mod-lt c.in_units-num.result divisor.0) divisor.1 in
    omega (arith, left_over)

pub overflow_add-result : goal.overflow_add-result
overflow_add-result c =
    omega (arith, div-le_self c.in_units-num.result (den c.args.p), c.in_units-num.ensures.upper_bound)

pub returns-then-den-num : goal.returns-then-den-num
returns-then-den-num c =
    let quotient : closest c.in_units-num.result (den c.args.p) ≡ Spec.nanohenries (c.args.t * 2 ^ c.args.p) (2 ^ 1074) = let p = c.args.p in let units = c.in_units-num in ap (λ (x : ℕ). closest units.result x) (power p c.requires.1 c.requires.2) ∙ from-units c.args.t p units.result c.requires.1 c.requires.2 units.ensures.jam in
    add-one _ ∙ sym (closest_next _ _ c.if-den-num.true) ∙ quotient

pub returns-else-den-num : goal.returns-else-den-num
returns-else-den-num c =
    let quotient : closest c.in_units-num.result (den c.args.p) ≡ Spec.nanohenries (c.args.t * 2 ^ c.args.p) (2 ^ 1074) = let p = c.args.p in let units = c.in_units-num in ap (λ (x : ℕ). closest units.result x) (power p c.requires.1 c.requires.2) ∙ from-units c.args.t p units.result c.requires.1 c.requires.2 units.ensures.jam in
    sym (closest_stays _ _ c.if-den-num.false) ∙ quotient
