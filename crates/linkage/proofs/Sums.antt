-- The sum over rows with one row more; and the value or the row of a call that is refused or done, by the number's being 0 or not.
use mathlib.Core.Path.{◌≡◌, refl}
use mathlib.Core.List.{List, []}
use Prim.Native.Nat.{ℕ, ◌+◌}
use native.Mathlib.Numerals.{add-one}
use borrow.Author.Tests.{ne_eqb}
use lib.ListN.{length}
use lib.Ieee.{Float}
use Rattle.binary64.specs.Binary64.{plus_zero}
use Rattle.refusal.specs.Outcome.{number}
use Rattle.refusal.specs.declared.Refusal.{Refusal}
use Rattle.refusal.proofs.Outcome.{never_0}
use Rattle.linkage.specs.Answer.{value_after}
use Rattle.lists.specs.Stretch.{stretch}
use Rattle.linkage.specs.Energy.{row_added, rows_added}
use Rattle.linkage.specs.Row.{row_after}

pub rows_more : (l s t : List Float) (i : ℕ) → rows_added l s t (i + 1) ≡ row_added (stretch l (length s) i) s t i (rows_added l s t i) (length s)
unfolding rows_added
rows_more l s t i = rw add-one

-- ---- what a call's clause says of its value or row
pub value-refused : (r : ℕ) (due : Float) → (r ≡ 0 → ⊥) → plus_zero ≡ value_after r due
unfolding value_after
value-refused r due n = rw (ne_eqb r 0 n)

pub value_refused : (r : Refusal) (due : Float) → plus_zero ≡ value_after (number r) due
value_refused r due = value-refused (number r) due (never_0 r)

pub value_done : (due : Float) → value_after 0 due ≡ due
unfolding value_after
value_done due = refl

pub row_refused : (r : Refusal) (due : List Float) {k : ℕ} → number r ≡ k → [] ≡ row_after k due
unfolding row_after
row_refused r due e = rw (← e, ne_eqb (number r) 0 (never_0 r))

pub row_done : (due : List Float) {k : ℕ} → 0 ≡ k → row_after k due ≡ due
unfolding row_after
row_done due e = rw (← e)
