-- Two laws of fma: the factors commute, and times 1 it is the rounded sum, for every value, NaN, infinities and signed zeros included. By cases on the values.
use mathlib.Core.Path.{◌≡◌, refl, ap, ◌∙◌}
use mathlib.Core.Bool.{Bool, true, false, cond}
use Prim.Native.Nat.{ℕ, ◌*◌}
use native.Mathlib.Nat.{mul_comm, mul-one}
use lib.IntN.{ℤ, pos}
use lib.Dec.{eqb}
use lib.Ieee.{Float, nan, inf, fin, binary64, unlike, up, down, sum, add, mul, of_bits}
use Rattle.binary64.specs.Binary64.{one}
use Rattle.binary64.specs.Operations.{fma, fma_fin}

unlike_comm : (s t : Bool) → unlike s t ≡ unlike t s
unlike_comm true true = refl
unlike_comm true false = refl
unlike_comm false true = refl
unlike_comm false false = refl

finite_comm : (s t : Bool) (m : ℕ) (e : ℤ) (n : ℕ) (d : ℤ) (z : Float) → fma_fin (unlike s t) m e n d z ≡ fma_fin (unlike t s) n d m e z
unfolding fma_fin
finite_comm s t m e n d nan = refl
finite_comm s t m e n d (inf u) = refl
finite_comm s t m e n d (fin u p c) =
    ap (λ (w : Bool). sum binary64 w (m * up e * (n * up d) * down c) u (p * up c * (down e * down d)) (down e * down d * down c)) (unlike_comm s t)
    ∙ ap (λ (w : ℕ). sum binary64 (unlike t s) (w * down c) u (p * up c * (down e * down d)) (down e * down d * down c)) (mul_comm (m * up e) (n * up d))
    ∙ ap (λ (w : ℕ). sum binary64 (unlike t s) (n * up d * (m * up e) * down c) u (p * up c * w) (w * down c)) (mul_comm (down e) (down d))

pub factors_commute : (a b c : Float) → fma a b c ≡ fma b a c
unfolding fma mul add
factors_commute nan nan c = refl
factors_commute nan (inf t) c = refl
factors_commute nan (fin t n d) c = refl
factors_commute (inf s) nan c = refl
factors_commute (inf s) (inf t) c = ap (λ (w : Bool). add binary64 (inf w) c) (unlike_comm s t)
factors_commute (inf s) (fin t n d) c = ap (λ (w : Bool). add binary64 (cond (eqb n 0) nan (inf w)) c) (unlike_comm s t)
factors_commute (fin s m e) nan c = refl
factors_commute (fin s m e) (inf t) c = ap (λ (w : Bool). add binary64 (cond (eqb m 0) nan (inf w)) c) (unlike_comm s t)
factors_commute (fin s m e) (fin t n d) c = finite_comm s t m e n d c

unlike_plus : (s : Bool) → unlike s false ≡ s
unlike_plus true = refl
unlike_plus false = refl

one_is : one ≡ fin false 1 (pos 0)
unfolding of_bits
one_is = refl

finite_one : (s : Bool) (m : ℕ) (e : ℤ) (c : Float) → fma (fin s m e) (fin false 1 (pos 0)) c ≡ add binary64 (fin s m e) c
unfolding fma fma_fin add
finite_one s m e nan = refl
finite_one s m e (inf u) = refl
finite_one s m e (fin u p c) =
    ap (λ (w : Bool). sum binary64 w (m * up e * 1 * down c) u (p * up c * (down e * 1)) (down e * 1 * down c)) (unlike_plus s)
    ∙ ap (λ (w : ℕ). sum binary64 s (w * down c) u (p * up c * (down e * 1)) (down e * 1 * down c)) (mul-one (m * up e))
    ∙ ap (λ (w : ℕ). sum binary64 s (m * up e * down c) u (p * up c * w) (w * down c)) (mul-one (down e))

times_one : (a c : Float) → fma a (fin false 1 (pos 0)) c ≡ add binary64 a c
unfolding fma mul add
times_one nan c = refl
times_one (inf s) c = ap (λ (w : Bool). add binary64 (inf w) c) (unlike_plus s)
times_one (fin s m e) c = finite_one s m e c

pub by_one : (a c : Float) → fma a one c ≡ add binary64 a c
by_one a c = ap (λ (w : Float). fma a w c) one_is ∙ times_one a c
