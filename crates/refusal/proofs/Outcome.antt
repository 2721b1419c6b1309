-- The numbers of refusals tell them apart, and none is 0: so an answer's number says all of it, and is 0 exactly where the call is done. By cases on the refusal.
use mathlib.Core.Path.{◌≡◌, refl, sym, ap, subst, ◌∙◌}
use mathlib.Core.Logic.{◌↔◌}
use mathlib.Core.Bool.{not, false≢true}
use mathlib.Core.List.{List, [], ◌∷◌}
use Prim.Native.Nat.{ℕ}
use lib.Dec.{T, eqb, eqb_refl, T_not}
use lib.ListN.{get_or}
use Rattle.std.specs.Prelude.{Result, Ok, Err, IsOk}
use Rattle.refusal.specs.Checks.{after}
use Rattle.refusal.proofs.Checks.{after-refused}
use Rattle.refusal.specs.Outcome.{number, number_of}
use Rattle.refusal.specs.declared.Refusal.{Refusal}
use Rattle.refusal.specs.declared.Refusal.TheVariants as R

pub nonzero : (r : Refusal) → T (not (eqb (number r) 0))
nonzero R.NodeColumns = tt
nonzero R.PanelColumns = tt
nonzero R.MissingNode = tt
nonzero R.ZeroArea = tt
nonzero R.NodalValues = tt
nonzero R.Output = tt
nonzero R.Matrix = tt
nonzero R.Coefficients = tt
nonzero R.Map = tt
nonzero R.Flux = tt
nonzero R.TooLarge = tt
nonzero R.NoSuchChoice = tt
nonzero R.NoSuchNode = tt
nonzero R.Mark = tt
nonzero R.FileLength = tt
nonzero R.Display = tt
nonzero R.UnknownName = tt
nonzero R.NoPlace = tt
nonzero R.NotFinite = tt

-- ---- by the number the refusal is found again
by_number : List Refusal
by_number = R.NodeColumns
    ∷ R.NodeColumns
    ∷ R.PanelColumns
    ∷ R.MissingNode
    ∷ R.ZeroArea
    ∷ R.NodalValues
    ∷ R.Output
    ∷ R.Matrix
    ∷ R.Coefficients
    ∷ R.Map
    ∷ R.Flux
    ∷ R.TooLarge
    ∷ R.NoSuchChoice
    ∷ R.NoSuchNode
    ∷ R.Mark
    ∷ R.FileLength
    ∷ R.Display
    ∷ R.UnknownName
    ∷ R.NoPlace
    ∷ R.NotFinite ∷ []

found_again : (r : Refusal) → get_or by_number (number r) R.NodeColumns ≡ r
unfolding by_number
found_again R.NodeColumns = refl
found_again R.PanelColumns = refl
found_again R.MissingNode = refl
found_again R.ZeroArea = refl
found_again R.NodalValues = refl
found_again R.Output = refl
found_again R.Matrix = refl
found_again R.Coefficients = refl
found_again R.Map = refl
found_again R.Flux = refl
found_again R.TooLarge = refl
found_again R.NoSuchChoice = refl
found_again R.NoSuchNode = refl
found_again R.Mark = refl
found_again R.FileLength = refl
found_again R.Display = refl
found_again R.UnknownName = refl
found_again R.NoPlace = refl
found_again R.NotFinite = refl

pub distinct : (r s : Refusal) → number r ≡ number s → r ≡ s
distinct r s e = sym (found_again r) ∙ ap (λ (k : ℕ). get_or by_number k R.NodeColumns) e ∙ found_again s

-- ---- 0 is done
pub never_0 : (r : Refusal) → number r ≡ 0 → ⊥
never_0 r e = T_not (eqb (number r) 0) (nonzero r) (subst (λ (k : ℕ). T (eqb k 0)) (sym e) (eqb_refl 0))

pub done_is_0 : {A : Type 0} (o : Result A Refusal) → (number_of o ≡ 0) ↔ IsOk o
done_is_0 (Ok a) = (λ e. refl, λ h. refl)
done_is_0 (Err r) = (λ e. absurd (never_0 r e), λ h. absurd (false≢true h))

-- what a refused call leaves
pub after_refusal : {A : Type 0} (r : Refusal) (due held : List A) → after (number r) due held ≡ held
after_refusal r due held = after-refused (number r) due held (never_0 r)
