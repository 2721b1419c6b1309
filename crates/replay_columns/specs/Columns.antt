-- The replay: a mesh in a stored case: six columns one behind the other, each as its length and its elements. Definitions only.
use Rattle.std.specs.Prelude.{List, ℕ, zero, suc, ◌+◌, Float}
use Rattle.mesh.specs.Mesh.{Mesh, mesh_of}
use Rattle.replay_words.specs.Words.{column_end, part}

-- the place of the length of column i, in a mesh that begins at place k; that of column 6 is the place behind the mesh
unfoldable pub column_at : List ℕ → ℕ → ℕ → ℕ
column_at w k zero = k
column_at w k (suc i) = column_end w (column_at w k i)

-- its elements, of the case's words as numbers or as places
unfoldable pub column : {A : Type 0} → List A → List ℕ → ℕ → ℕ → List A
column l w k i = part l (column_at w k i + 1) (column_at w k (i + 1))

unfoldable pub mesh_at : List Float → List ℕ → List ℕ → ℕ → Mesh
mesh_at f u w k = mesh_of (column f w k 0) (column f w k 1) (column f w k 2) (column u w k 3) (column u w k 4) (column u w k 5)
