-- Shifted up by the leading zero bits, the two words' upper 64 digits are one word, with a sticky bit for the rest: `narrow_low`, `narrow_high`.
use Rattle.std.proofs.Common.{◌≡◌, ℕ, ◌^◌, ◌<◌, arith}
use Rattle.fused_integer.proofs.Laws.Shifts.{narrow_low, narrow_high}
use Rattle.fused_integer.proofs.narrow.Goals as goal

pub returns-then-w-eq0 : goal.returns-then-w-eq0
returns-then-w-eq0 c =
    narrow_low c.args.w.hi c.args.w.lo c.args.g c.if-w-eq0.true c.requires.w_nonzero (omega arith) c.requires.lowest_lt_g

pub returns-else-w-eq0 : goal.returns-else-w-eq0
returns-else-w-eq0 c =
    let w = c.args.w in
    let hi_fits : w.hi < 2 ^ 64 = omega arith in
    let lo_fits : w.lo < 2 ^ 64 = omega arith in
    narrow_high w.hi w.lo c.args.g c.sticky.result (some w.hi c.if-w-eq0.false) hi_fits
    lo_fits c.requires.lowest_lt_g c.sticky.type_inv c.sticky.ensures.0 c.sticky.ensures.1
  where
    some : (a : ℕ) → (a ≡ 0 → ⊥) → 0 < a
    some a h = omega arith
