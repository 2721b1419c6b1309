-- Both words shifted, the lower word's low bits in the sticky bit: `near_law`.
use Rattle.std.proofs.Common.{ℕ, ◌/◌, ◌^◌, ◌<◌, sym, ap, ◌∙◌, arith}
use lib.Bits.{bit_or}
use Rattle.fused_integer.proofs.Laws.Words.{near_law}
use Rattle.fused_integer.proofs.jam_near.Goals as goal

pub returns : goal.returns
returns c =
    let w = c.args.w in
    let d = c.args.d in
    let fits : w.lo < 2 ^ 64 = omega arith in
    near_law w.hi w.lo d (bit_or c.low_bits.result (w.lo / 2 ^ d)) c.sticky.result fits c.requires
    (ap (λ (x : ℕ). bit_or x (w.lo / 2 ^ d)) c.low_bits.ensures)
    (λ z. c.sticky.ensures.0 (c.low_bits-2.ensures ∙ z))
    (λ z. c.sticky.ensures.1 (λ u. z (sym c.low_bits-2.ensures ∙ u)))
