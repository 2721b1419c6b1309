-- Document 01's move: the mesh with one node at another place, and the number of such a move. Definitions only.
use Rattle.std.specs.Prelude.{not, List, [], ◌∷◌, ◌++◌, ℕ, ◌*◌, eqb, leb, set, Float}
use Rattle.binary64.specs.Binary64.{at}
use Rattle.refusal.specs.Numbers.{output_length, no_such_node, zero_area}
use Rattle.refusal.specs.Checks.{Check, check, first}
use Rattle.mesh.specs.Mesh.{Mesh, mesh_of, nnode, some_zero_area, mesh_checks, max_nodes, max_panels}

-- Document 01's "moved mesh": the place (x, y, z) at node v, everything else as it was
abbrev pub moved : Mesh → ℕ → Float → Float → Float → Mesh
moved m v x y z = mesh_of (set m.xs v x) (set m.ys v y) (set m.zs v z) m.t0 m.t1 m.t2

-- the same, the place as three numbers
abbrev pub moved_to : Mesh → ℕ → List Float → Mesh
moved_to m v place = moved m v (at place 0) (at place 1) (at place 2)

-- ---- the number
-- after the mesh's checks: 6, 13, and 4 on the moved mesh
abbrev pub place_checks : Mesh → ℕ → ℕ → Float → Float → Float → List Check
place_checks m size v x y z =
    check output_length (not (eqb size (nnode m * nnode m)))
    ∷ check no_such_node (leb (nnode m) v)
    ∷ check zero_area (some_zero_area (moved m v x y z))
    ∷ []

-- under a rule that there is
unfoldable pub place_refusal : Mesh → ℕ → ℕ → Float → Float → Float → ℕ
place_refusal m size v x y z = first (mesh_checks max_nodes max_panels m ++ place_checks m size v x y z)

abbrev pub refusal_at : Mesh → ℕ → ℕ → List Float → ℕ
refusal_at m size v place = place_refusal m size v (at place 0) (at place 1) (at place 2)
