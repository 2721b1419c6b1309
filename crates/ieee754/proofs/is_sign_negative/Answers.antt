-- The library's sign of a number is the definition's: by x's cases.
use mathlib.Core.Path.{◌≡◌, refl, ◌∙◌}
use lib.Ieee.{Float, nan, inf, fin}
use Rattle.std.specs.Float.{is_sign_negative}
use Rattle.ieee754.specs.Ieee754.{sign_bit}
use Rattle.ieee754.proofs.is_sign_negative.Goals as goal

same : (x : Float) → is_sign_negative x ≡ sign_bit x
unfolding is_sign_negative sign_bit
same nan = refl
same (inf s) = refl
same (fin s m e) = refl

pub returns : goal.returns
returns c = c.is_sign_negative.ensures ∙ same c.args.x
