-- Document 01's row of a node in a matrix or a map, or nothing on a refusal. Definitions only.
use Rattle.std.specs.Prelude.{cond, List, [], ◌∷◌, ◌++◌, ℕ, ◌/◌, eqb, leb, length, Float}
use Rattle.refusal.specs.Numbers.{coefficients, map_length, no_such_node}
use Rattle.refusal.specs.Checks.{Check, check, first}
use Rattle.lists.specs.Stretch.{stretch}
use Rattle.linkage.specs.Energy.{matrix_checks}
use Rattle.linkage.specs.Flux.{lacks_sources, broken_rows}

-- a row, or nothing on a refusal
unfoldable pub row_after : ℕ → List Float → List Float
row_after r due = cond (eqb r 0) due []

-- 13: the node is not below the row count
abbrev pub node_checks : ℕ → ℕ → List Check
node_checks rows node = check no_such_node (leb rows node) ∷ []

-- 11, 7, 13: a matrix of so many numbers, for n nodes
unfoldable pub matrix_row_refusal : ℕ → ℕ → ℕ → ℕ
matrix_row_refusal size n node = first (matrix_checks n size ++ node_checks n node)

abbrev pub matrix_row : List Float → ℕ → ℕ → List Float
matrix_row m n node = row_after (matrix_row_refusal (length m) n node) (stretch m n node)

-- the rows of a map; without sources none
unfoldable pub row_count : ℕ → ℕ → ℕ
row_count size sources = cond (eqb sources 0) 0 (size / sources)

-- 8, 9, 13: a map of so many numbers, for so many sources
abbrev pub map_row_checks : ℕ → ℕ → ℕ → List Check
map_row_checks size sources node =
    check coefficients (lacks_sources size sources 0) ∷ check map_length (broken_rows size sources) ∷ node_checks (row_count size sources) node

unfoldable pub map_row_refusal : ℕ → ℕ → ℕ → ℕ
map_row_refusal size sources node = first (map_row_checks size sources node)

abbrev pub map_row : List Float → ℕ → ℕ → List Float
map_row m sources node = row_after (map_row_refusal (length m) sources node) (stretch m sources node)
