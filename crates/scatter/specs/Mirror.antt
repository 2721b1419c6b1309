-- Document 02, CR 1: below the diagonal stands a copy of the cell above it. Definitions only.
use Rattle.std.specs.Prelude.{Bool, cond, ◌≡◌, List, ℕ, ◌+◌, ◌*◌, ◌<◌, leb, Float}
use Rattle.binary64.specs.Binary64.{at}
use Rattle.scatter.specs.Renewal.{renewed}

-- on and above the diagonal g's own cell, below it a copy of the one above
abbrev pub mirrored : (ℕ → ℕ → Float) → ℕ → ℕ → Float
mirrored g a b = cond (leb a b) (g a b) (g b a)

-- document 02's "this form": (a, b) and (b, a) are alike
abbrev pub Symmetric : ℕ → List Float → Type 0
Symmetric n m = (a b : ℕ) → a < n → b < n → at m (b * n + a) ≡ at m (a * n + b)

-- the cells of a matrix of n columns as it stands
abbrev pub cells_of : ℕ → List Float → ℕ → ℕ → Float
cells_of n m a b = at m (a * n + b)

-- named cells below the diagonal are copies, every other cell keeps its number
abbrev pub copied_below : (ℕ → Bool) → ℕ → List Float → List Float
copied_below r n old = renewed r (mirrored (cells_of n old)) n old
