-- A pattern above an infinity's is a NaN's, and every NaN is one number; any other is its pattern's number.
use mathlib.Core.Path.{◌≡◌, refl, sym, ◌∙◌, subst}
use mathlib.Core.Bool.{Bool, true, not, true≢false}
use Prim.Native.Nat.{◌%◌, ◌^◌}
use lib.Arith.{le→nltb}
use lib.Dec.{T}
use lib.Ieee.{Float, nan, inf, fin, binary64, is_nan}
use lib.Ieee.Bits.{nan_bits_is, nan_bits_above}
use borrow.Author.Tests.{lt-ltb}
use Rattle.panel_file.proofs.from_bits.Goals as goal

is-nan : (x : Float) → is_nan x ≡ true → x ≡ nan
unfolding is_nan
is-nan nan e = refl
is-nan (inf s) e = absurd (true≢false (sym e))
is-nan (fin s m k) e = absurd (true≢false (sym e))

pub float_from_bits-result : goal.float_from_bits-result
float_from_bits-result c = subst (λ (b : Bool). T (not b)) (sym (nan_bits_above binary64 c.args.n)) (le→nltb 0x7ff0_0000_0000_0000 (c.args.n % 2 ^ 63) c.if-n-gt9218868437227405312.false)

pub returns-then-n-gt9218868437227405312 : goal.returns-then-n-gt9218868437227405312
returns-then-n-gt9218868437227405312 c = c.not_a_number.ensures ∙ sym (is-nan _ (sym (nan_bits_is binary64 c.args.n) ∙ nan_bits_above binary64 c.args.n ∙ lt-ltb _ _ c.if-n-gt9218868437227405312.true))
