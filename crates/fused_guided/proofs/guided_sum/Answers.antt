-- Each exit says what `leads` comes to: the sum leaves the words or is negative, its leading digit is elsewhere, or it is at place 116 and the significand
-- is its rounding.
use Rattle.std.proofs.Common.{◌≡◌, ℕ, ◌-◌, ◌*◌, ◌^◌, Bool, subst}
use Rattle.fused_integer.specs.declared.Wide.{Wide}
use Rattle.fused_integer.specs.Words.{words}
use Rattle.fused_guided.specs.Guided.{signed_sum, SignedWords}
use Rattle.fused_guided.proofs.Laws.Guided.{below_pow, sum-high, sum_other, sum-leads, sum_near, no_significand, a_significand}
use Rattle.fused_guided.proofs.guided_sum.Goals as goal

-- the two terms, for the words that hold them
terms : (p z : Wide) {cp cz : Bool} {n k hi lo : ℕ} → words p ≡ n → words z ≡ k → SignedWords cp (words p) cz (words z) hi lo → SignedWords cp n cz k hi lo
terms p z {cp} {cz} {n} {k} {hi} {lo} e f w =
    subst (λ (y : ℕ). SignedWords cp y cz k hi lo) e (subst (λ (y : ℕ). SignedWords cp (words p) cz y hi lo) f w)

pub returns-then-d-s-ne0 : goal.returns-then-d-s-ne0
returns-then-d-s-ne0 c =
    let a = c.args in
    let d = c.signed_sum-d in
    let p = a.u * a.v in
    let z = a.w * 2 ^ a.k in
    no_significand (signed_sum a.cp p a.cz z) a.s
    (sum-high a.cp a.cz p z a.s d.result.hi d.result.lo c.requires.le_s.0 c.requires.le_s.1
    (terms c.product-p.result c.shift_word-z.result c.product-p.ensures c.shift_word-z.ensures d.ensures) c.if-d-s-ne0.true)

pub returns-then-x-ne1 : goal.returns-then-x-ne1
returns-then-x-ne1 c =
    let a = c.args in
    let d = c.signed_sum-d in
    let x = c.shift_more-x in
    let p = a.u * a.v in
    let z = a.w * 2 ^ a.k in
    no_significand (signed_sum a.cp p a.cz z) a.s
    (sum_other a.cp a.cz p z a.s d.result.hi d.result.lo c.requires.le_s.0 c.requires.le_s.1
    (terms c.product-p.result c.shift_word-z.result c.product-p.ensures c.shift_word-z.ensures d.ensures) x.result.hi x.result.lo
    (below_pow d.result.hi (64 - a.s) c.if-d-s-ne0.false) x.ensures.0 x.ensures.1 c.if-x-ne1.true)

pub returns : goal.returns
returns c =
    let a = c.args in
    let d = c.signed_sum-d in
    let x = c.shift_more-x in
    let p = a.u * a.v in
    let z = a.w * 2 ^ a.k in
    let sums : SignedWords a.cp p a.cz z d.result.hi d.result.lo = terms c.product-p.result c.shift_word-z.result c.product-p.ensures c.shift_word-z.ensures d.ensures in
    let fit = below_pow d.result.hi (64 - a.s) c.if-d-s-ne0.false in
    a_significand (signed_sum a.cp p a.cz z) a.s c.near_word.result
    (sum-leads a.cp a.cz p z a.s d.result.hi d.result.lo c.requires.le_s.0 c.requires.le_s.1 sums x.result.hi x.result.lo
    fit x.ensures.0 x.ensures.1 c.if-x-ne1.false)
    (sum_near a.cp a.cz p z a.s d.result.hi d.result.lo c.requires.le_s.0 c.requires.le_s.1 sums x.result.hi x.result.lo
    fit x.ensures.0 x.ensures.1 c.near_word.result c.near_word.ensures)
