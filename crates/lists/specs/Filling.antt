-- Shared by the definitions: a list of n elements, floats or indices, given one by one, and an output that is filled with it from the front or from an index on. Definitions only.
use Rattle.std.specs.Prelude.{List, [], ◌∷◌, ◌≡◌, ℕ, zero, suc, ◌<◌, Float}
use Rattle.std.proofs.Math.Seq.{paste}
use Rattle.binary64.specs.Binary64.{at}

module _ {A : Type 0} where
  -- g i, g (i + 1), …: c numbers
  unfoldable pub tabulate_from : (ℕ → A) → ℕ → ℕ → List A
  tabulate_from g i zero = []
  tabulate_from g i (suc c) = g i ∷ tabulate_from g (suc i) c

  -- g 0, g 1, …: n numbers
  abbrev pub tabulate : ℕ → (ℕ → A) → List A
  tabulate n g = tabulate_from g 0 n

  -- ---- a loop that fills an output of n numbers from the front: after k turns the first k are the list's, the others as held
  abbrev pub filled : List A → ℕ → (ℕ → A) → ℕ → List A
  filled held n g k = paste held 0 (tabulate n g) k

  -- ---- a run of c turns at once, from a
  abbrev pub run : List A → ℕ → ℕ → (ℕ → A) → ℕ → List A
  run held a c h k = paste held a (tabulate c h) k

-- the first n elements of r are g 0, g 1, …
abbrev pub Each : ℕ → (ℕ → Float) → List Float → Type 0
Each n g r = (i : ℕ) → i < n → at r i ≡ g i
