-- Document 01's move: cells of a matrix worked out anew while the others keep their numbers: a cell is named if its row or its column is marked. Additions are made to named cells on and above
-- the diagonal only; those below it become copies (specs/Mirror). With every node marked this is the assembly of the whole matrix. Definitions only.
use Rattle.std.specs.Prelude.{Bool, true, false, ◌&&◌, ◌||◌, cond, ◌≡◌, List, [], ◌∷◌, ℕ, ◌+◌, ◌*◌, ◌<◌, ◌≤◌, leb, length, get_or, set, Float}
use Rattle.binary64.specs.Binary64.{◌⊕◌, at}
use Rattle.mesh.specs.Mesh.{max_nodes}
use Rattle.scatter.specs.Entries.{Entry, square}

-- Document 01's "named": row or column in the set r
abbrev pub named : (ℕ → Bool) → ℕ → ℕ → Bool
named r a b = r a || r b

-- the cell (a, b) once named cells are g's
abbrev pub renewed_cell : (ℕ → Bool) → (ℕ → ℕ → Float) → ℕ → List Float → ℕ → ℕ → Float
renewed_cell r g n old a b = cond (named r a b) (g a b) (at old (a * n + b))

-- named cells are g's, every other cell keeps its number
unfoldable pub renewed : (ℕ → Bool) → (ℕ → ℕ → Float) → ℕ → List Float → List Float
renewed r g n old = square n (renewed_cell r g n old)

-- ---- the additions, made one after the other in a matrix of n columns
abbrev pub add_at : ℕ → List Float → Entry → List Float
add_at n m e = set m (e.row * n + e.col) (at m (e.row * n + e.col) ⊕ e.value)

unfoldable pub scatter : ℕ → List Float → List Entry → List Float
scatter n m [] = m
scatter n m (e ∷ es) = scatter n (add_at n m e) es

abbrev pub keep_entry : Bool → Entry → List Entry → List Entry
keep_entry true e es = e ∷ es
keep_entry false e es = es

-- a named cell on or above the diagonal
abbrev pub added : (ℕ → Bool) → ℕ → ℕ → Bool
added r a b = named r a b && leb a b

-- the additions to such cells
abbrev pub only : (ℕ → Bool) → List Entry → List Entry
only r [] = []
only r (e ∷ es) = keep_entry (added r e.row e.col) e (only r es)

-- those, made
unfoldable pub renewing : (ℕ → Bool) → ℕ → List Float → List Entry → List Float
renewing r n m es = scatter n m (only r es)

-- every addition goes to a cell of the matrix
abbrev pub Within : ℕ → List Entry → Type 0
Within n [] = Unit
Within n (e ∷ es) = (e.row < n) × (e.col < n) × Within n es

-- ---- what the functions ask
-- the set as an array of marks
abbrev pub marked : List Bool → ℕ → Bool
marked marks a = get_or marks a false

-- a matrix of n × n numbers, and a mark for each node
pub record Sized (n : ℕ) (out : List Float) (marks : List Bool) : Type 0 where
  pub small : n ≤ max_nodes
  pub cells : length out ≡ n * n
  pub enough : n ≤ length marks

-- every node of the list is below n
abbrev pub AllBelow : ℕ → List ℕ → Type 0
AllBelow n [] = Unit
AllBelow n (x ∷ s) = (x < n) × AllBelow n s
