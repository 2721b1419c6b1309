-- inductance.rs, `triangle_mesh_inductance_matrix`: the cells' sums, over the additions in program order; on and above the diagonal they are the matrix's cells, and those below it are copies
-- (document 02, CR 1). Definitions only.
use Rattle.std.specs.Prelude.{List, ℕ, Float}
use Rattle.mesh.specs.Mesh.{Mesh, nnode}
use Rattle.scatter.specs.Entries.{contributions, cell_sum, square}
use Rattle.scatter.specs.Mirror.{mirrored}
use Rattle.pair_loops.specs.Additions.{Block, entries}

-- the Rust's cell: +0, and the values that go to the cell (a, b), added one after the other
unfoldable pub summed_cell : Block → Mesh → ℕ → ℕ → Float
summed_cell block m a b = cell_sum (contributions (entries block m) a b)

-- the Rust's on and above the diagonal, below it a copy
unfoldable pub cell : Block → Mesh → ℕ → ℕ → Float
cell block m = mirrored (summed_cell block m)

-- Document 01's "fresh matrix"
unfoldable pub matrix : Block → Mesh → List Float
matrix block m = square (nnode m) (cell block m)
