-- A value differs from itself exactly if it is the NaN; the sign bit of a pattern is the value's sign, since the pattern without its sign lies below 2^63; |x| is x with its sign turned where it is set.
use Rattle.std.specs.Prelude.{◌≡◌, ℕ, zero, suc, ◌^◌, ◌<◌, Bool, true, false, not, T, leb, ℤ}
use mathlib.Core.Path.{refl, sym, ap, subst}
use mathlib.Core.Bool.{true≢false, false≢true}
use native.Mathlib.Omega.{arith}
use lib.Ieee.{Float, nan, inf, fin, binary64, fits, is_nan, ne, neg, to_bits}
use lib.Ieee.Bits.{to_bits-lt}
use lib.Ieee.Compare.{differs_from_itself, nan_differs}
use borrow.Author.Tests.{le-leb, lt-leb}
use Rattle.binary64.proofs.Signs as Pattern
use Rattle.ieee754.specs.Ieee754.{sign_bit, abs, signed}

-- ---- NaN
pub differs : (b : Bool) (x : Float) → ne x x ≡ b → b ≡ is_nan x
unfolding is_nan
differs true x e = sym (ap is_nan (differs_from_itself x (subst T (sym e) tt)))
differs false nan e = cc nan_differs
differs false (inf s) e = refl
differs false (fin s m k) e = refl

pub no_nan : (x : Float) → is_nan x ≡ false → T (not (is_nan x))
no_nan x e = subst (λ (b : Bool). T (not b)) (sym e) tt

-- ---- the sign bit
size_fits : (s : Bool) (m : ℕ) (e : ℤ) → T (fits binary64 (fin s m e)) → T (fits binary64 (fin true m e))
unfolding fits
size_fits s zero e h = h
size_fits s (suc m) e h = h

fin_sign : (s : Bool) (m : ℕ) (e : ℤ) → T (fits binary64 (fin s m e)) → leb (2 ^ 63) (to_bits binary64 (fin s m e)) ≡ s
fin_sign true m e h = let k = Pattern.fin_sign binary64 true m e in le-leb (2 ^ 63) (to_bits binary64 (fin true m e)) (omega arith)
fin_sign false m e h =
    let k = Pattern.fin_sign binary64 true m e in
    let u : to_bits binary64 (fin true m e) < 2 ^ 64 = to_bits-lt binary64 (fin true m e) (size_fits false m e h) in
    lt-leb (2 ^ 63) (to_bits binary64 (fin false m e)) (omega arith)

inf_sign : (s : Bool) → leb (2 ^ 63) (to_bits binary64 (inf s)) ≡ s
unfolding to_bits
inf_sign true = refl
inf_sign false = refl

pub sign_bit_lem : (x : Float) → T (fits binary64 x) → is_nan x ≡ false → leb (2 ^ 63) (to_bits binary64 x) ≡ sign_bit x
unfolding sign_bit is_nan
sign_bit_lem nan h n = absurd (true≢false n)
sign_bit_lem (inf s) h n = inf_sign s
sign_bit_lem (fin s m e) h n = fin_sign s m e h

pub nan_sign : (x : Float) → is_nan x ≡ true → false ≡ sign_bit x
unfolding sign_bit is_nan
nan_sign nan n = refl
nan_sign (inf s) n = absurd (false≢true n)
nan_sign (fin s m e) n = absurd (false≢true n)

pub size_is : (x : Float) → signed (sign_bit x) x ≡ abs x
unfolding signed sign_bit abs neg
size_is nan = refl
size_is (inf true) = refl
size_is (inf false) = refl
size_is (fin true m e) = refl
size_is (fin false m e) = refl
