-- The shifted significand and its exponent are the mantissa and the exponent of the pattern’s value (`pattern_parts`); then the two cases of `ln_reduced`.
use mathlib.Core.Path.{sym}
use Prim.Native.Nat.{◌+◌, ◌-◌, ◌*◌, ◌^◌}
use lib.Ieee.{binary64, of_bits}
use Rattle.elementary.proofs.Parts.{Parts, pattern_parts, ln_halved, ln_kept}
use Rattle.elementary.proofs.ln_of_bits.Goals as goal

pub returns-then-m : goal.returns-then-m
returns-then-m c =
    let parts : Parts (of_bits binary64 c.args.b) (c.significand-t.result * 2 ^ c.shift-z.result) (c.exponent.result + 52 - c.shift-z.result) = let d = c.significand-t in let h = c.shift-z in pattern_parts c.args.b d.result c.exponent.result h.result c.requires.1 d.ensures.value c.exponent.ensures h.ensures.trailing_bound.0 h.ensures.trailing_bound.1 h.ensures.upper_bound in
    rw (c.ln_at.ensures, c.float_exponent.ensures) (sym (ln_halved _ _ _ parts c.if-m.true))

pub returns : goal.returns
returns c =
    let parts : Parts (of_bits binary64 c.args.b) (c.significand-t.result * 2 ^ c.shift-z.result) (c.exponent.result + 52 - c.shift-z.result) = let d = c.significand-t in let h = c.shift-z in pattern_parts c.args.b d.result c.exponent.result h.result c.requires.1 d.ensures.value c.exponent.ensures h.ensures.trailing_bound.0 h.ensures.trailing_bound.1 h.ensures.upper_bound in
    rw (c.ln_at-2.ensures, c.float_exponent-2.ensures) (sym (ln_kept _ _ _ parts c.if-m.false))
