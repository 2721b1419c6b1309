-- Where none of the first n numbers is a NaN, the one at an index below n is none.
use Rattle.std.proofs.Common.{◌≡◌, ℕ, ◌≤◌, ◌<◌, Bool, true, false, List, take, length, sym, refl, ◌∙◌}
use Rattle.std.specs.List.{list_any}
use Rattle.std.proofs.lemmas.Grind.{common_steps}
use Rattle.std.proofs.lemmas.List.Folds.{list_any_at}
use native.Mathlib.Omega.{arith}
use mathlib.Core.Bool.{false≢true}
use lib.Ieee.{Float, nan, is_nan}
use Rattle.binary64.specs.Binary64.{at}

pub no_nan_at : (r : List Float) (n i : ℕ) → n ≤ length r → i < n → list_any is_nan (take n r) ≡ false → is_nan (at r i) ≡ false
no_nan_at r n i l h e = go (is_nan (at r i)) refl
  where
    go : (b : Bool) → is_nan (at r i) ≡ b → b ≡ false
    go false w = refl
    go true w = absurd (false≢true (sym e ∙ list_any_at is_nan (take n r) i nan (grind (arith, common_steps)) (grind (arith, common_steps))))
