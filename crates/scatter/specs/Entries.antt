-- inductance.rs, `scatter_triangle_block`: a nodal matrix as a list of additions in program order: each names a cell and a value. A cell is the sum of the values that name it, in that order.
-- Definitions only.
use Rattle.std.specs.Prelude.{Bool, true, false, ◌&&◌, List, [], ◌∷◌, ◌++◌, map, ℕ, suc, ◌+◌, ◌*◌, ◌/◌, ◌%◌, eqb, Float}
use Rattle.binary64.specs.Binary64.{◌⊕◌, at, plus_zero}
use Rattle.lists.specs.Filling.{tabulate}

-- one addition: value goes to the cell (row, col)
pub record Entry : Type 0 where
  pub row : ℕ
  pub col : ℕ
  pub value : Float

abbrev pub entry : ℕ → ℕ → Float → Entry
entry a b v = record { row = a; col = b; value = v }

abbrev pub transpose : Entry → Entry
transpose e = entry e.col e.row e.value

-- element k of v and those after it, along row a at the columns t
unfoldable pub row_entries : ℕ → List ℕ → List Float → ℕ → List Entry
row_entries a [] v k = []
row_entries a (b ∷ t) v k = entry a b (at v k) ∷ row_entries a t v (suc k)

-- scatter_triangle_block: the 3 by 3 block v, row by row from its element k, at the source nodes s and the target nodes t; a node may stand twice
unfoldable pub block_entries : List ℕ → List ℕ → List Float → ℕ → List Entry
block_entries [] t v k = []
block_entries (a ∷ s) t v k = row_entries a t v k ++ block_entries s t v (k + 3)

-- scatter_triangle_block_transpose: the same additions in the same order, each to the transposed cell
unfoldable pub oriented : Bool → List Entry → List Entry
oriented false es = es
oriented true es = map transpose es

-- a block, and for two panels the same block transposed
unfoldable pub with_transposed : Bool → List Entry → List Entry
with_transposed true es = es
with_transposed false es = es ++ oriented true es

-- x is the node a
abbrev pub same : ℕ → ℕ → Bool
same a x = eqb x a

-- ---- a cell
abbrev pub hits : Entry → ℕ → ℕ → Bool
hits e a b = eqb e.row a && eqb e.col b

abbrev pub keep : Bool → Float → List Float → List Float
keep true v vs = v ∷ vs
keep false v vs = vs

-- the values that go to the cell (a, b), in order
abbrev pub contributions : List Entry → ℕ → ℕ → List Float
contributions [] a b = []
contributions (e ∷ es) a b = keep (hits e a b) e.value (contributions es a b)

-- rounded additions to x, one after the other
abbrev pub sum_from : Float → List Float → Float
sum_from x [] = x
sum_from x (v ∷ vs) = sum_from (x ⊕ v) vs

-- a cell starts at +0
unfoldable pub cell_sum : List Float → Float
cell_sum vs = sum_from plus_zero vs

-- ---- n × n cells, row by row
unfoldable pub square : ℕ → (ℕ → ℕ → Float) → List Float
square n g = tabulate (n * n) (λ k. g (k / n) (k % n))
