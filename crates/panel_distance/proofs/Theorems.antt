-- Of equal longest edges the first is split. No length is below itself, and one that is above another is no NaN and so reaches itself.
use mathlib.Core.Path.{◌≡◌, refl}
use mathlib.Core.Bool.{true, false, false≢true}
use Prim.Native.Nat.{ℕ, ◌*◌}
use native.Mathlib.Omega.{arith}
use borrow.Author.Tests.{le-ltb, eq-eqb}
use lib.Dec.{ltb}
use lib.Ieee.{Float, nan, inf, fin, lt, le, eq, up, down}
use Rattle.panel_distance.specs.Bisection.{first_longest}

ltb_itself : (a : ℕ) → ltb a a ≡ false
ltb_itself a = le-ltb a a (omega arith)

lt_itself : (x : Float) → lt x x ≡ false
unfolding lt
lt_itself nan = refl
lt_itself (inf true) = refl
lt_itself (inf false) = refl
lt_itself (fin true m e) = ltb_itself (m * up e * down e)
lt_itself (fin false m e) = ltb_itself (m * up e * down e)

le_itself : (x y : Float) → lt x y ≡ true → le y y ≡ true
unfolding le lt eq
le_itself nan nan e = absurd (false≢true e)
le_itself (inf s) nan e = absurd (false≢true e)
le_itself (fin s m d) nan e = absurd (false≢true e)
le_itself x (inf true) e = refl
le_itself x (inf false) e = refl
le_itself x (fin true m d) e = rw (ltb_itself (m * up d * down d), eq-eqb (m * up d * down d) (m * up d * down d) refl)
le_itself x (fin false m d) e = rw (ltb_itself (m * up d * down d), eq-eqb (m * up d * down d) (m * up d * down d) refl)

-- edges 0 and 1 alike, and 2 no longer
pub first_of_0_1 : (l m : Float) → lt l m ≡ false → first_longest l l m ≡ 0
unfolding first_longest
first_of_0_1 l m h = rw (lt_itself l, h)

-- edges 0 and 2 alike, and 1 no longer
pub first_of_0_2 : (l m : Float) → lt l m ≡ false → first_longest l m l ≡ 0
unfolding first_longest
first_of_0_2 l m h = rw (h, lt_itself l)

-- edges 1 and 2 alike and longer than 0
pub first_of_1_2 : (l m : Float) → lt l m ≡ true → first_longest l m m ≡ 1
unfolding first_longest
first_of_1_2 l m h = rw (h, le_itself l m h)
