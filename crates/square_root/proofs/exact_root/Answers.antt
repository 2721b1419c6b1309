-- What is its own root, what has none, and else the pattern that `exact_root_bits` gives, read back.
use Rattle.std.proofs.Common.{◌≡◌, ℕ, ◌^◌, ◌<◌, T, sym, ap, ◌∙◌, subst, arith}
use lib.Ieee.{Float, binary64, of_bits, to_bits, fits}
use lib.Ieee.Bits.{of_bits-to_bits, to_bits-lt}
use lib.Ieee.Compare.{differs_from_itself}
use Rattle.binary64.specs.Operations.{square_root, sqrt}
use Rattle.square_root.proofs.Special.{own_root, zero_root, minus_zero_root, infinity_root, nan-root, no_root, zero_over_zero}
use Rattle.binary64.proofs.Root.Value.{sqrt_fits}
use Rattle.binary64.specs.Format.{infinity_bits}
use Rattle.square_root.proofs.exact_root.Goals as goal

pub returns-then-x : goal.returns-then-x
unfolding sqrt
returns-then-x c = nan-root c.args.x (differs_from_itself c.args.x (subst T (sym c.if-x.true) tt))

pub returns-then-b-eq0 : goal.returns-then-b-eq0
unfolding sqrt
returns-then-b-eq0 c =
    let held : T (fits binary64 c.args.x) = subst T (sym c.well_formed.0.1) tt in
    let x = c.args.x in own_root x 0 held (omega arith) zero_root

pub returns-then-b-lt-INFINITY_BITS : goal.returns-then-b-lt-INFINITY_BITS
unfolding sqrt
returns-then-b-lt-INFINITY_BITS c =
    let held : T (fits binary64 c.args.x) = subst T (sym c.well_formed.0.1) tt in
    let x = c.args.x in
    let h = held in
    let o : of_bits binary64 (to_bits binary64 x) ≡ x = of_bits-to_bits binary64 x h in
    ap (λ (n : ℕ). of_bits binary64 n) (c.exact_root_bits.ensures.value ∙ ap (λ (y : Float). to_bits binary64 (square_root binary64 y)) o) ∙ of_bits-to_bits binary64 (square_root binary64 x) (sqrt_fits binary64 x h)

pub returns-then-b-eq-INFINITY_BITS : goal.returns-then-b-eq-INFINITY_BITS
unfolding sqrt
returns-then-b-eq-INFINITY_BITS c =
    let held : T (fits binary64 c.args.x) = subst T (sym c.well_formed.0.1) tt in
    let x = c.args.x in own_root x infinity_bits held (omega arith) infinity_root

pub returns-then-b : goal.returns-then-b
unfolding sqrt
returns-then-b c =
    let held : T (fits binary64 c.args.x) = subst T (sym c.well_formed.0.1) tt in
    let x = c.args.x in own_root x 0x8000_0000_0000_0000 held (omega arith) minus_zero_root

pub returns : goal.returns
unfolding sqrt
returns c =
    let held : T (fits binary64 c.args.x) = subst T (sym c.well_formed.0.1) tt in
    let x = c.args.x in
    let h = held in
    let b = to_bits binary64 x in
    let u : b < 2 ^ 64 = to_bits-lt binary64 x h in
    let n : infinity_bits < b = omega arith in
    let m : b ≡ 2 ^ 63 → ⊥ = λ e. omega arith in
    zero_over_zero ∙ sym (no_root b n m u) ∙ ap (λ (y : Float). square_root binary64 y) (of_bits-to_bits binary64 x h)
