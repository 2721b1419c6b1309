-- Shared by the definitions: a call's answer as a list of checks in document 01's order, of which the first that applies gives its number, and 0 if none does; and what a lent buffer holds after a call. Definitions only.
use Rattle.std.specs.Prelude.{◌≡◌, Bool, true, false, not, ◌&&◌, cond, List, [], ◌∷◌, ℕ, eqb}

-- one line of the table: its number, and whether it applies
pub record Check : Type 0 where
  pub number : ℕ
  pub applies : Bool

abbrev pub check : ℕ → Bool → Check
check k t = record { number = k; applies = t }

-- the number of the first check that applies, 0 if none does
unfoldable pub first : List Check → ℕ
first [] = 0
first (c ∷ cs) = cond c.applies c.number (first cs)

-- what a lent buffer holds after a call that answered r: what is due, or on a refusal what it held
unfoldable pub after : {A : Type 0} → ℕ → List A → List A → List A
after r due held = cond (eqb r 0) due held

-- none of the checks applies
abbrev pub Clear : List Check → Type 0
Clear [] = Unit
Clear (c ∷ cs) = (c.applies ≡ false) × Clear cs

-- no check has the number k; at 0: every one gives a number of the table
abbrev pub lacks : ℕ → List Check → Bool
lacks k [] = true
lacks k (c ∷ cs) = not (eqb c.number k) && lacks k cs
