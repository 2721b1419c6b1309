-- The reader's contract says that number and columns are the ones due. Stated of variables, where rewriting is cheap.
use mathlib.Core.Path.{◌≡◌}
use mathlib.Core.Bool.{Bool}
use mathlib.Core.List.{List}
use Prim.Native.Nat.{ℕ}
use lib.Ieee.{Float}
use Rattle.mesh.specs.Mesh.{mesh_of, max_nodes, max_panels}
use Rattle.panel_file.specs.PanelFile.{Read}
use Rattle.replay_files.specs.Files.{held_columns, read_file_into}

pub compared : (bytes w : List ℕ) (k : ℕ) {x y z : List Float} {a b c : List ℕ} {r : ℕ} {x' y' z' : List Float} {a' b' c' : List ℕ} {p : Bool}
    → Read max_nodes max_panels bytes (mesh_of x y z a b c) r (mesh_of x' y' z' a' b' c')
    → p ≡ held_columns r x' y' z' a' b' c' w k
    → p ≡ read_file_into bytes x y z a b c w k
unfolding read_file_into
compared bytes w k e f = rw (← e.number, ← e.x, ← e.y, ← e.z, ← e.t0, ← e.t1, ← e.t2) f
