-- A sum that is a number has no NaN in it: of a t that is no NaN the three operands are numbers.
use Rattle.std.proofs.Common.{not, T}
use lib.Ieee.{Float, nan, inf, fin, binary64, add, mul, is_nan}

nan-sum : (w : Float) → T (not (is_nan (add binary64 w nan))) → ⊥
unfolding add is_nan
nan-sum nan h = h
nan-sum (inf s) h = h
nan-sum (fin s m e) h = h

pub number_x : (x y z : Float) → T (not (is_nan (add binary64 (mul binary64 x y) z))) → T (not (is_nan x))
unfolding add mul is_nan
number_x nan y z h = h
number_x (inf s) y z h = tt
number_x (fin s m e) y z h = tt

pub number_y : (x y z : Float) → T (not (is_nan (add binary64 (mul binary64 x y) z))) → T (not (is_nan y))
unfolding add mul is_nan
number_y nan nan z h = h
number_y (inf s) nan z h = h
number_y (fin s m e) nan z h = h
number_y x (inf s) z h = tt
number_y x (fin s m e) z h = tt

pub number_z : (x y z : Float) → T (not (is_nan (add binary64 (mul binary64 x y) z))) → T (not (is_nan z))
number_z x y nan h = absurd (nan-sum (mul binary64 x y) h)
number_z x y (inf s) h = unfold is_nan in tt
number_z x y (fin s m e) h = unfold is_nan in tt
