-- The upper word shifted, its low bits and the lower word in the sticky bit: `far_law`.
use Rattle.std.proofs.Common.{ℕ, ◌^◌, ◌<◌, sym, ap, ◌∙◌, arith}
use lib.Bits.{bit_or}
use Rattle.fused_integer.proofs.Laws.Words.{far_law}
use Rattle.fused_integer.proofs.jam_far.Goals as goal

pub returns : goal.returns
returns c =
    let lo = c.args.w.lo in
    let fits : lo < 2 ^ 64 = omega arith in
    let l = c.low_bits.ensures in
    far_law c.args.w.hi lo c.args.d c.sticky.result fits c.requires
    (λ z. c.sticky.ensures.0 (ap (λ (x : ℕ). bit_or x lo) l ∙ z))
    (λ z. c.sticky.ensures.1 (λ u. z (ap (λ (x : ℕ). bit_or x lo) (sym l) ∙ u)))
