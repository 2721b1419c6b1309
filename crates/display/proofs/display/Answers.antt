-- The size is worked out from the pattern of |x|: its significand and its exponent give `SizeIs`, and each exit says on which side of a bound that size lies.
use mathlib.Core.Path.{◌≡◌, sym, ap, ◌∙◌, subst}
use mathlib.Core.Bool.{Bool, true, false}
use Prim.Native.Nat.{ℕ, ◌*◌, ◌^◌, ◌≤◌}
use native.Mathlib.Omega.{arith}
use borrow.Author.Tests.{lt-ltb}
use lib.Dec.{T}
use lib.Ieee.{Float, binary64, fits, is_nan, to_bits}
use mir.Syntax.{w64}
use mir.Facts.{to_z-of_z}
use Rattle.binary64.specs.Pattern.{significand_of, exponent_of}
use Rattle.ieee754.specs.Ieee754.{abs}
use Rattle.ieee754.proofs.Signs.{no_nan}
use Rattle.display.specs.Display as Spec
use Rattle.display.proofs.Range.{SizeIs, Pattern, from-pattern, too_large_lem, too_small, pattern, number_of_size, not_a_number, refused, accepted, no_sign}
use Rattle.display.proofs.display.Goals as goal

-- behind the test for NaN: n is what it answered
known : {x y : Float} {n : Bool} → fits binary64 x ≡ true → n ≡ is_nan x → n ≡ false → y ≡ abs x → Pattern x (to_bits binary64 y)
known f t e a = pattern _ _ a (subst T (sym f) tt) (sym t ∙ e)

-- the size that the pattern's significand t and exponent p give
computed : {x : Float} {b t p n : ℕ} → Pattern x b → exponent_of b ≤ 1041 → t ≡ significand_of b → p ≡ exponent_of b → n ≡ Spec.nanohenries (t * 2 ^ p) (2 ^ 1074) → SizeIs x n
computed {x} k l s e h =
    subst (λ (n : ℕ). SizeIs x n) (sym (h ∙ (λ i. Spec.nanohenries (s i * 2 ^ e i) (2 ^ 1074)))) (from-pattern _ _ k.stands l)

pub returns-then-is_nan : goal.returns-then-is_nan
returns-then-is_nan c = refused c.args.x (not_a_number c.args.x (sym c.is_nan.ensures ∙ c.if-is_nan.true))

pub float_to_bits-b : goal.float_to_bits-b
float_to_bits-b c = no_nan _ (number_of_size c.args.x _ c.abs-b.ensures (sym c.is_nan.ensures ∙ c.if-is_nan.false))

pub returns-then-b-ge-TOO_LARGE : goal.returns-then-b-ge-TOO_LARGE
returns-then-b-ge-TOO_LARGE c =
    let k = known c.well_formed.0.1 c.is_nan.ensures c.if-is_nan.false c.abs-b.ensures in
    refused _ (too_large_lem _ _ k.positive k.stands (omega arith))

pub returns-then-b-lt-TOO_SMALL : goal.returns-then-b-lt-TOO_SMALL
returns-then-b-lt-TOO_SMALL c =
    let k = known c.well_formed.0.1 c.is_nan.ensures c.if-is_nan.false c.abs-b.ensures in
    let b = to_bits binary64 c.abs-b.result in
    accepted _ 0 _ (subst (λ (n : ℕ). SizeIs c.args.x n) (too_small b (omega arith)) (from-pattern _ _ k.stands (omega arith))) (omega arith) (no_sign _)

pub returns-then-size-gt-LARGEST : goal.returns-then-size-gt-LARGEST
returns-then-size-gt-LARGEST c =
    let k = known c.well_formed.0.1 c.is_nan.ensures c.if-is_nan.false c.abs-b.ensures in
    let s = computed k (omega arith) c.significand.ensures.value c.exponent.ensures c.nanohenries-size.ensures in
    refused _ (s.range ∙ lt-ltb _ _ c.if-size-gt-LARGEST.true)

pub returns : goal.returns
returns c =
    let k = known c.well_formed.0.1 c.is_nan.ensures c.if-is_nan.false c.abs-b.ensures in
    let s = computed k (omega arith) c.significand.ensures.value c.exponent.ensures c.nanohenries-size.ensures in
    accepted _ c.nanohenries-size.result _ s (omega arith)
    (to_z-of_z {w = w64} (record { sfits = c.with_sign.type_inv }) ∙ c.with_sign.ensures ∙ ap (λ (s : Bool). Spec.with_sign s c.nanohenries-size.result) c.is_sign_negative.ensures)
