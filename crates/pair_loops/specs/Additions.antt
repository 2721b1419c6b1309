-- inductance.rs, `triangle_mesh_inductance_matrix`: every addition in program order. The block is a parameter: a function of the corners of the source and the target panel and nothing else.
-- Definitions only.
use Rattle.std.specs.Prelude.{Bool, List, [], ◌++◌, ℕ, zero, suc, ◌-◌, eqb, Float}
use Rattle.tri.specs.Mapping.{Tri}
use Rattle.mesh.specs.Mesh.{Mesh, nnode, ntri, triangle_indices, triangle_nodes}
use Rattle.scatter.specs.Entries.{Entry, block_entries, with_transposed}
use Rattle.scatter.specs.Renewal.{marked, renewing}

-- nine numbers row by row, of the source's corners and the target's
abbrev pub Block : Type 0
Block = Tri → Tri → List Float

-- panels i and j: the block and, for two panels, the same additions transposed
unfoldable pub pair_entries : Block → Mesh → ℕ → ℕ → List Entry
pair_entries block m i j =
    with_transposed (eqb i j) (block_entries (triangle_indices m i) (triangle_indices m j) (block (triangle_nodes m i) (triangle_nodes m j)) 0)

-- source i against the c targets from j up
unfoldable pub target_entries : Block → Mesh → ℕ → ℕ → ℕ → List Entry
target_entries block m i j zero = []
target_entries block m i j (suc c) = pair_entries block m i j ++ target_entries block m i (suc j) c

-- source i against every target from j up
abbrev pub targets_from : Block → Mesh → ℕ → ℕ → List Entry
targets_from block m i j = target_entries block m i j (ntri m - j)

-- the c sources from i up, each against the targets from itself up
unfoldable pub source_entries : Block → Mesh → ℕ → ℕ → List Entry
source_entries block m i zero = []
source_entries block m i (suc c) = target_entries block m i i (ntri m - i) ++ source_entries block m (suc i) c

-- every addition of the assembly, in order
abbrev pub entries : Block → Mesh → List Entry
entries block m = source_entries block m 0 (ntri m)

-- the matrix out after those of a mesh's additions es that go to a marked node's row or column
abbrev pub added_to : List Bool → Mesh → List Float → (Mesh → List Entry) → List Float
added_to marks m out es = renewing (marked marks) (nnode m) out (es m)
