-- At zero the infinity is negated. Where none of the first four cases holds, x has the pattern of a finite number above zero, and its pattern stands for x.
use mathlib.Core.Path.{◌≡◌, sym, ap, ◌∙◌, subst}
use mathlib.Core.Bool.{false}
use lib.Dec.{T}
use lib.Ieee.{Float, binary64, fits, neg, eq, inf}
use lib.Ieee.Bits.{of_bits-to_bits}
use Rattle.elementary.specs.Elementary as Spec
use Rattle.elementary.proofs.Finite.{above_zero, under_infinity}
use Rattle.elementary.proofs.ln.Goals as goal

pub returns-then-x-2 : goal.returns-then-x-2
unfolding Spec.ln neg
returns-then-x-2 c =
    rw (← c.is_nan.ensures, c.if-is_nan.false, c.if-x.false, c.if-x-2.true, c.infinity.ensures)

pub ln_of_bits-requires : goal.ln_of_bits-requires
ln_of_bits-requires c =
    let held : T (fits binary64 c.args.x) = subst T (sym c.well_formed.0.1) tt in
    let x = c.args.x in
    let n = sym c.is_nan.ensures ∙ c.if-is_nan.false in
    let i : eq x (inf false) ≡ false = ap (λ (y : Float). eq x y) (sym c.infinity-infinity.ensures) ∙ c.if-x-infinity.false in
    (above_zero x held n c.if-x.false c.if-x-2.false i, under_infinity x held n c.if-x.false c.if-x-2.false i)

pub returns : goal.returns
unfolding Spec.ln
returns c =
    let held : T (fits binary64 c.args.x) = subst T (sym c.well_formed.0.1) tt in
    let e = c.ln_of_bits.ensures ∙ ap (λ (y : Float). Spec.ln_reduced (Spec.mantissa y) (Spec.exponent y)) (of_bits-to_bits binary64 c.args.x held) in
    rw (← c.is_nan.ensures, c.if-is_nan.false, c.if-x.false, c.if-x-2.false, ← c.infinity-infinity.ensures, c.if-x-infinity.false) e
