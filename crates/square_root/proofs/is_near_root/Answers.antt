-- The upper words differ otherwise than one word of excess allows (`far_over`), or the lower words decide (`near_over`).
use Rattle.std.proofs.Common.{◌≡◌, ℕ, ◌+◌, ◌*◌, ◌%◌, ◌^◌, ◌<◌, ◌≤◌, Bool, sym, ap, ◌∙◌, mod-lt, arith, pow_pos}
use mir.Val.{bool_byte}
use Rattle.std.specs.Bool.{FalseIff}
use Rattle.square_root.proofs.Test.{far_over, near_over}
use Rattle.square_root.proofs.Words.{borrowed, one_at_most}
use Rattle.square_root.proofs.is_near_root.Goals as goal

-- the excess and its borrow, by the two words
words : (t : Bool) (m p l w o : ℕ) → l < 2 ^ 64 → w < 2 ^ 64 → (w + m * 2 ^ 52 % 2 ^ 64) % 2 ^ 64 ≡ l → FalseIff t (m * 2 ^ 52 % 2 ^ 64 ≤ l)
    → o ≡ bool_byte t → l ≡ p % 2 ^ 64 → w + m * 2 ^ 52 % 2 ^ 64 ≡ p % 2 ^ 64 + o * 2 ^ 64
words t m p l w o L W e f O P =
    borrowed t l (m * 2 ^ 52 % 2 ^ 64) w o L (mod-lt (m * 2 ^ 52) (pow_pos 64)) W e f O ∙ ap (λ (x : ℕ). x + o * 2 ^ 64) P

pub returns-then-high_product-m : goal.returns-then-high_product-m
returns-then-high_product-m c =
    let e = c.overflowing_sub-excess in
    let low = c.low_product in
    let o = c.from in
    let fits : e.result.0 < 2 ^ 64 = omega arith in
    far_over c.args.m c.args.r c.requires.scaled e.result.0 o.result (one_at_most _ o.result o.ensures) fits
    (words _ c.args.m (c.args.r * (c.args.r + 1)) low.result e.result.0 o.result low.type_inv fits e.ensures.value e.ensures.overflow o.ensures low.ensures)
    (λ g. c.if-high_product-m.true (c.high_product.ensures ∙ g))

pub returns : goal.returns
returns c =
    let e = c.overflowing_sub-excess in
    let low = c.low_product in
    let o = c.from in
    let fits : e.result.0 < 2 ^ 64 = omega arith in
    near_over c.args.m c.args.r c.requires.scaled e.result.0 o.result
    (words _ c.args.m (c.args.r * (c.args.r + 1)) low.result e.result.0 o.result low.type_inv fits e.ensures.value e.ensures.overflow o.ensures low.ensures)
    (sym c.high_product.ensures ∙ c.if-high_product-m.false)
