-- By the exponent: a normal value, an infinity, a smaller one that keeps fewer digits, or 0 (`rounds_mid`, `rounds-top`, `rounds-low`, `rounds-none`).
use Rattle.std.proofs.Common.{◌-◌, sym, refl, ◌∙◌}
use Rattle.fused_integer.proofs.Laws.Final.{rounds_mid, rounds-top, rounds-low, rounds-none, word_law}
use Rattle.fused_integer.specs.Rounds.{normal_from}
use Rattle.fused_integer.proofs.pack.Goals as goal

pub returns-then-k-lt-LARGEST_FIELD : goal.returns-then-k-lt-LARGEST_FIELD
returns-then-k-lt-LARGEST_FIELD c =
    rounds_mid c.args.sig c.args.exp (c.args.exp - normal_from) c.rounded.result c.ranges.sig.fits c.if-exp-ge-NORMAL_FROM.true refl
    c.if-k-lt-LARGEST_FIELD.true c.rounded.ensures

pub returns-else-k-lt-LARGEST_FIELD : goal.returns-else-k-lt-LARGEST_FIELD
returns-else-k-lt-LARGEST_FIELD c =
    rounds-top c.args.sig c.args.exp (c.args.exp - normal_from) c.requires c.if-exp-ge-NORMAL_FROM.true refl c.if-k-lt-LARGEST_FIELD.false

pub returns-then-t-lt64 : goal.returns-then-t-lt64
returns-then-t-lt64 c =
    let sig = c.args.sig in
    let t = normal_from - c.args.exp in
    let l = c.low_bits.ensures in
    let k = c.sticky in
    rounds-low sig c.args.exp t k.result c.rounded-then-t-lt64.result c.if-exp-ge-NORMAL_FROM.false refl k.type_inv
    (word_law sig t k.result (λ z. k.ensures.0 (l ∙ z)) (λ z. k.ensures.1 (λ u. z (sym l ∙ u))))
    c.rounded-then-t-lt64.ensures

pub returns-else-t-lt64 : goal.returns-else-t-lt64
returns-else-t-lt64 c =
    rounds-none c.args.sig c.args.exp c.ranges.sig.fits c.if-exp-ge-NORMAL_FROM.false c.if-t-lt64.false
