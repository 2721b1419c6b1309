-- Document 01's move: the ring of changed nodes, the cells that a set of nodes names, and their count. Definitions only.
use Rattle.std.specs.Prelude.{◌≡◌, Bool, ◌&&◌, ◌||◌, List, ℕ, zero, suc, ◌+◌}
use Rattle.lists.specs.Counting.{any_of, some_below, count_below}
use Rattle.mesh.specs.Mesh.{Mesh, ntri, triangle_indices}
use Rattle.scatter.specs.Entries.{same}
use Rattle.scatter.specs.Renewal.{named, marked}

-- panel p holds a changed node and the node a
abbrev pub joins : Mesh → (ℕ → Bool) → ℕ → ℕ → Bool
joins m changed a p = any_of changed (triangle_indices m p) && any_of (same a) (triangle_indices m p)

-- Document 01's "ring": the nodes of every panel that holds a changed node; empty if none does
abbrev pub ring : Mesh → (ℕ → Bool) → ℕ → Bool
ring m changed a = some_below (joins m changed a) (ntri m)

-- how many of the cells (a, b) with a below c and b below n pass the test, counted one by one
unfoldable pub count_rows : (ℕ → ℕ → Bool) → ℕ → ℕ → ℕ
count_rows t n zero = 0
count_rows t n (suc c) = count_rows t n c + count_below (t c) n

-- how many of the n × n cells are named by the set r
abbrev pub named_count : (ℕ → Bool) → ℕ → ℕ
named_count r n = count_rows (named r) n n

-- ---- what the functions that mark leave of the marks old
-- the nodes s of a panel are marked if one of them is changed
abbrev pub MarksPanel : (ℕ → Bool) → List ℕ → List Bool → List Bool → Type 0
MarksPanel changed s old new = (a : ℕ) → marked new a ≡ (marked old a || (any_of changed s && any_of (same a) s))

-- the ring of the changed nodes is marked
abbrev pub MarksRing : Mesh → (ℕ → Bool) → List Bool → List Bool → Type 0
MarksRing m changed old new = (a : ℕ) → marked new a ≡ (marked old a || ring m changed a)
