-- Document 01's move of one node: the numbers in order and the claim of the call. The moved mesh, the ring of the node and the named cells are those of node_ring, passed on. Definitions only.
use Rattle.std.specs.Prelude.{◌≡◌, ◌↔◌, ◌⊎◌, List, ◌∷◌, ◌++◌, ℕ, ◌*◌, ◌<◌, ◌≤◌, length, Float}
use Rattle.tri.specs.Quadrature.{quadrature_rule, NoSuchRule, is_unknown}
use Rattle.tri.specs.declared.quadrature.QuadratureKind.{QuadratureKind}
use Rattle.tri.specs.Quadrature.{Rule}
use Rattle.refusal.specs.Numbers.{no_such_choice, output_length, no_such_node, zero_area}
use Rattle.refusal.specs.Checks.{check, first}
use Rattle.mesh.specs.declared.columns.PanelColumns.{PanelColumns}
use Rattle.mesh.specs.Mesh.{Mesh, mesh_of, nnode, ntri, mesh_checks, max_nodes, max_panels}
use Rattle.mesh.specs.Conditions.{NodeColumnsAlike, PanelColumnsAlike, NoneMissing, ZeroArea, Refused4, Accepted, MeshNumbered}
use Rattle.coupling.specs.Block.{mutual_inductance_block}
use Rattle.scatter.specs.Entries.{same}
use Rattle.scatter.specs.Renewal.{renewed}
use Rattle.scatter.specs.Mirror.{Symmetric}
use Rattle.inductance.specs.Matrix.{cell, matrix}
use Rattle.inductance.specs.Assembly.{block_under}
pub use Rattle.node_ring.specs.Place.{moved, place_checks}
unfoldable pub use Rattle.node_ring.specs.Place.{place_refusal}
pub use Rattle.node_ring.specs.Ring.{joins, ring, named_count}
unfoldable pub use Rattle.node_ring.specs.Ring.{count_rows}

-- the mesh of lent coordinates, which a call may write, and panels
abbrev pub on_panels : List Float → List Float → List Float → PanelColumns → Mesh
on_panels x y z p = mesh_of x y z p.t0.now p.t1.now p.t2.now

-- 12, 1, 2, 11, 3, 4, 6, 13, 4 on the moved mesh
unfoldable pub move_refusal : Rule → Mesh → ℕ → ℕ → Float → Float → Float → ℕ
move_refusal rule m size v x y z =
    first (check no_such_choice (is_unknown rule) ∷ mesh_checks max_nodes max_panels m ++ place_checks m size v x y z)

-- 4 of the moved mesh: everything before it is passed
abbrev pub MovedRefused4 : Mesh → ℕ → ℕ → Float → Float → Float → Type 0
MovedRefused4 m size v x y z = Accepted max_nodes max_panels m × (size ≡ nnode m * nnode m) × (v < nnode m) × ZeroArea (moved m v x y z)

-- a number is the move's exactly if its condition holds and no earlier one's; 4 is the mesh's or the moved mesh's
pub record MoveNumbered (number : ℕ) (m : Mesh) (size v : ℕ) (x y z : Float) (r : ℕ) : Type 0 where
  pub is_12 : (r ≡ no_such_choice) ↔ NoSuchRule number
  pub mesh : MeshNumbered (NoSuchRule number → ⊥) max_nodes max_panels m r
  pub is_6 : (r ≡ output_length) ↔ ((NoSuchRule number → ⊥) × Accepted max_nodes max_panels m × (size ≡ nnode m * nnode m → ⊥))
  pub is_13 : (r ≡ no_such_node) ↔ ((NoSuchRule number → ⊥) × Accepted max_nodes max_panels m × (size ≡ nnode m * nnode m) × (nnode m ≤ v))
  pub is_4 : (r ≡ zero_area) ↔ ((NoSuchRule number → ⊥) × (Refused4 max_nodes max_panels m ⊎ MovedRefused4 m size v x y z))
  pub is_0 : (r ≡ 0) ↔ ((NoSuchRule number → ⊥) × Accepted max_nodes max_panels m × (size ≡ nnode m * nnode m) × (v < nnode m) × Accepted max_nodes max_panels (moved m v x y z))

-- ---- the claim
-- what a move leaves that is done: the mesh m', the matrix new and the count
pub record Done (cell_of : Mesh → ℕ → ℕ → Float) (m : Mesh) (old : List Float) (v : ℕ) (x y z : Float) (count : ℕ) (m' : Mesh) (new : List Float) : Type 0 where
  pub mesh : m' ≡ moved m v x y z
  pub cells : new ≡ renewed (ring m (same v)) (cell_of (moved m v x y z)) (nnode m) old
  pub total : count ≡ named_count (ring m (same v)) (nnode m)

-- Demand 3's premise: the call's choice is there, mesh and moved mesh are both accepted, and the node is one of the mesh's
pub record Premise (Choice : Type 0) (m : Mesh) (v : ℕ) (x y z : Float) : Type 0 where
  pub choice : Choice
  pub mesh : Accepted max_nodes max_panels m
  pub moved-mesh : Accepted max_nodes max_panels (moved m v x y z)
  pub there : v < nnode m

-- Demand 3, for a call that answers r and count and leaves m' and new, over any cells cell_of and their fresh matrix matrix_of.
-- number, refused, accepted: the number; refused: all as it was and the count 0; accepted: the moved mesh, its fresh cells where row or column is in the ring and the old numbers elsewhere, the
-- count of those cells. fresh: a fresh matrix handed in is left as the moved mesh's. symmetric: a matrix in CR 1's form, fresh or not, is left in this form. demand, renews: under demand 3's
-- premise the move is not refused, so a call that refuses everything does not meet this.
pub record MoveClaim (Choice : Type 0) (cell_of : Mesh → ℕ → ℕ → Float) (matrix_of : Mesh → List Float) (refusal : ℕ) (m : Mesh) (old : List Float) (v : ℕ) (x y z : Float) (r count : ℕ) (m' : Mesh) (new : List Float) : Type 0 where
  pub number : r ≡ refusal
  pub refused : (r ≡ 0 → ⊥) → (m' ≡ m) × (new ≡ old) × (count ≡ 0)
  pub accepted : r ≡ 0 → Done cell_of m old v x y z count m' new
  pub fresh : r ≡ 0 → old ≡ matrix_of m → new ≡ matrix_of (moved m v x y z)
  pub symmetric : r ≡ 0 → Symmetric (nnode m) old → Symmetric (nnode m) new
  pub demand : Premise Choice m v x y z → old ≡ matrix_of m → (r ≡ 0) × (new ≡ matrix_of (moved m v x y z))
  pub renews : Premise Choice m v x y z → length old ≡ nnode m * nnode m → (r ≡ 0) × Done cell_of m old v x y z count m' new

-- the claim of the call, for a rule by its number
abbrev pub MovedBy : ℕ → Mesh → List Float → ℕ → Float → Float → Float → ℕ → ℕ → Mesh → List Float → Type 0
MovedBy number m old v x y z r count m' new =
    let f = block_under (quadrature_rule number) in
    MoveClaim (NoSuchRule number → ⊥) (cell f) (matrix f) (move_refusal (quadrature_rule number) m (length old) v x y z) m old v x y z r count m' new

-- the same for a rule that there is
abbrev pub MovedUnder : QuadratureKind → Mesh → List Float → ℕ → Float → Float → Float → ℕ → ℕ → Mesh → List Float → Type 0
MovedUnder kind m old v x y z r count m' new =
    let f = mutual_inductance_block kind in
    MoveClaim Unit (cell f) (matrix f) (place_refusal m (length old) v x y z) m old v x y z r count m' new

-- ---- what the functions below the call ask
pub record MoveReady (m : Mesh) (old : List Float) (v : ℕ) : Type 0 where
  pub nodes_alike : NodeColumnsAlike m
  pub panels_alike : PanelColumnsAlike m
  pub none_missing : NoneMissing m
  pub small : nnode m ≤ max_nodes
  pub few_panels : ntri m ≤ max_panels
  pub cells : length old ≡ nnode m * nnode m
  pub there : v < nnode m
