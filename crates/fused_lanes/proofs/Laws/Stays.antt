-- A NaN stays one: it lies in no range, so a lane answers NaN for it, whatever the other tests say (`nan_stays`). What a lane settles is then of a number
-- (`of_number`).
use mathlib.Core.Path.{◌≡◌, refl, sym, ap, ◌∙◌}
use mathlib.Core.Bool.{Bool, true, false, cond, ◌&&◌, true≢false}
use lib.Ieee.{Float, nan, inf, fin, is_nan, le, lt, eq, of_bits}
use Rattle.binary64.specs.Binary64.{◌⊕◌, ◌⊖◌, ◌⊗◌, bits, plus_zero}
use Rattle.fused_lanes.specs.Lanes.{within, two_to_minus400, two_to_minus200, two_to_minus70, two_to200, two_to400, magnitude_or_zero, settled, square_add}

unsettled : (s v r : Float) → settled false s v r ≡ r
unfolding settled
unsettled s v r = go (le (s ⊕ (v ⊕ s ⊗ two_to_minus70)) (s ⊕ (v ⊖ s ⊗ two_to_minus70)))
  where
    go : (b : Bool) → cond (b && false) (s ⊕ (v ⊕ s ⊗ two_to_minus70)) r ≡ r
    go true = refl
    go false = refl

out_of_range : (plain : Bool) (s v q : Float) → settled (plain && within two_to_minus400 nan two_to400) s v (cond (plain && eq nan plus_zero) q nan) ≡ nan
unfolding le lt eq of_bits
out_of_range true s v q = unsettled s v nan
out_of_range false s v q = unsettled s v nan

nan_stays : (x : Float) → square_add x nan ≡ nan
unfolding square_add
nan_stays x = let a = bits (magnitude_or_zero x) in out_of_range (within two_to_minus200 a two_to200) _ _ (a ⊗ a)

pub of_number : (x z : Float) → is_nan (square_add x z) ≡ false → is_nan z ≡ false
unfolding is_nan
of_number x nan h = absurd (true≢false (sym (ap is_nan (nan_stays x)) ∙ h))
of_number x (inf s) h = refl
of_number x (fin s m e) h = refl
