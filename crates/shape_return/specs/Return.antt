-- CR 5's return to a named shape: which nodes differ from it, the numbers in order and the claim of the call. Definitions only.
use Rattle.std.specs.Prelude.{◌≡◌, ◌↔◌, ◌⊎◌, Bool, not, ◌||◌, List, [], ◌∷◌, ◌++◌, ℕ, ◌*◌, ◌<◌, eqb, length, Float}
use Rattle.std.specs.Borrow.{Bor, MutBor}
use denote.Triple.Both.{Both}
use lib.Dec.{T}
use lib.Ieee.{binary64, fits}
use Rattle.binary64.specs.Binary64.{at}
use Rattle.ieee754.specs.Ieee754.{canonical_bits}
use Rattle.tri.specs.Quadrature.{quadrature_rule, NoSuchRule, is_unknown}
use Rattle.tri.specs.declared.quadrature.QuadratureKind.{QuadratureKind}
use Rattle.tri.specs.Quadrature.{Rule}
use Rattle.refusal.specs.Numbers.{no_such_choice, output_length, zero_area, unknown_name}
use Rattle.refusal.specs.Checks.{Check, check, first}
use Rattle.mesh.specs.Mesh.{Mesh, mesh_of, nnode, mesh_checks, max_nodes, max_panels, left_mesh}
use Rattle.mesh.specs.declared.columns.NodeColumns.{NodeColumns}
use Rattle.mesh.specs.declared.columns.PanelColumns.{PanelColumns}
use Rattle.node_move.specs.Move.{on_panels}
use Rattle.mesh.specs.Conditions.{ZeroArea, Refused4, Accepted, MeshNumbered}
use Rattle.coupling.specs.Block.{mutual_inductance_block}
use Rattle.scatter.specs.Renewal.{marked, renewed}
use Rattle.scatter.specs.Mirror.{Symmetric}
use Rattle.inductance.specs.Matrix.{cell, matrix}
use Rattle.inductance.specs.Assembly.{block_under}
use Rattle.node_ring.specs.Ring.{ring, named_count, MarksRing}
use Rattle.shape_store.specs.Store.{Store, place_of, lacks_name, shape_of, store_differs}
use Rattle.shape_store.specs.Conditions.{StoreSized, KnownName, UnknownName}

-- ---- which nodes differ
-- +0 and −0 differ, NaN and NaN do not
abbrev pub same_number : Float → Float → Bool
same_number x y = eqb (canonical_bits x) (canonical_bits y)

-- one of a node's three coordinates does
unfoldable pub differs : Mesh → Mesh → ℕ → Bool
differs m m₁ a =
    not (same_number (at m.xs a) (at m₁.xs a))
    || (not (same_number (at m.ys a) (at m₁.ys a)) || not (same_number (at m.zs a) (at m₁.zs a)))

-- the nodes whose rows and columns are renewed
abbrev pub changed_ring : Mesh → Mesh → ℕ → Bool
changed_ring m m₁ = ring m (differs m m₁)

-- the shape of a name
abbrev pub named_shape : Mesh → Store → List ℕ → Mesh
named_shape m s w = shape_of m s (place_of s w)

-- ---- the number
-- after the mesh's checks: 6, 17, and the checks of the named shape
abbrev pub shape_checks : Mesh → Store → List ℕ → ℕ → List Check
shape_checks m s w size =
    check output_length (store_differs (nnode m) s || not (eqb size (nnode m * nnode m)))
    ∷ check unknown_name (lacks_name s w)
    ∷ mesh_checks max_nodes max_panels (named_shape m s w)

-- under a rule that there is
unfoldable pub shape_refusal : Mesh → Store → List ℕ → ℕ → ℕ
shape_refusal m s w size = first (mesh_checks max_nodes max_panels m ++ shape_checks m s w size)

-- 12, 1, 2, 11, 3, 4, 6, 17, and the named shape's own, of which 4 alone can come
unfoldable pub return_refusal : Rule → Mesh → Store → List ℕ → ℕ → ℕ
return_refusal rule m s w size = first (check no_such_choice (is_unknown rule) ∷ mesh_checks max_nodes max_panels m ++ shape_checks m s w size)

-- not 6
pub record Sized (m : Mesh) (s : Store) (size : ℕ) : Type 0 where
  pub store : StoreSized (nnode m) s
  pub cells : size ≡ nnode m * nnode m

-- what lets the call come to the name: the rule, the mesh and the lengths
pub record Ready (Choice : Type 0) (m : Mesh) (s : Store) (size : ℕ) : Type 0 where
  pub choice : Choice
  pub mesh : Accepted max_nodes max_panels m
  pub sized : Sized m s size

-- 4 of the named shape: everything before it is passed
abbrev pub ShapeRefused4 : Type 0 → Mesh → Store → List ℕ → ℕ → Type 0
ShapeRefused4 Choice m s w size = Ready Choice m s size × KnownName s w × ZeroArea (named_shape m s w)

-- a number is the return's exactly if its condition holds and no earlier one's; 4 is the mesh's or the named shape's
pub record ReturnNumbered (number : ℕ) (m : Mesh) (s : Store) (w : List ℕ) (size : ℕ) (r : ℕ) : Type 0 where
  pub is_12 : (r ≡ no_such_choice) ↔ NoSuchRule number
  pub mesh : MeshNumbered (NoSuchRule number → ⊥) max_nodes max_panels m r
  pub is_6 : (r ≡ output_length) ↔ ((NoSuchRule number → ⊥) × Accepted max_nodes max_panels m × (Sized m s size → ⊥))
  pub is_17 : (r ≡ unknown_name) ↔ (Ready (NoSuchRule number → ⊥) m s size × UnknownName s w)
  pub is_4 : (r ≡ zero_area) ↔ (((NoSuchRule number → ⊥) × Refused4 max_nodes max_panels m) ⊎ ShapeRefused4 (NoSuchRule number → ⊥) m s w size)
  pub is_0 : (r ≡ 0) ↔ (Ready (NoSuchRule number → ⊥) m s size × KnownName s w × Accepted max_nodes max_panels (named_shape m s w))

-- ---- the claim
-- what a return to the shape m₁ leaves that is done: the mesh m', the matrix new and the count
pub record Done (cell_of : Mesh → ℕ → ℕ → Float) (m m₁ : Mesh) (old : List Float) (count : ℕ) (m' : Mesh) (new : List Float) : Type 0 where
  pub mesh : m' ≡ m₁
  pub cells : new ≡ renewed (changed_ring m m₁) (cell_of m₁) (nnode m) old
  pub total : count ≡ named_count (changed_ring m m₁) (nnode m)

abbrev pub DoneUnder : QuadratureKind → Mesh → Mesh → List Float → ℕ → Mesh → List Float → Type 0
DoneUnder kind = Done (cell (mutual_inductance_block kind))

-- For a call that answers r and count and leaves m' and new, over any cells cell_of and their fresh matrix matrix_of.
-- number, refused, accepted: the number; refused: all as it was and the count 0; accepted: the named shape, its fresh cells where row or column is in the ring of a node that differs and the old
-- numbers elsewhere, each such cell counted one time. fresh: the present shape's fresh matrix is left as the named one's. symmetric: a matrix in CR 1's form, fresh or not, is left in this form.
-- demand: a name that is held, with all that is lent as it should be, is not refused, so a call that refuses everything does not meet this.
pub record ReturnClaim (Choice : Type 0) (cell_of : Mesh → ℕ → ℕ → Float) (matrix_of : Mesh → List Float) (refusal : ℕ)
    (m : Mesh) (s : Store) (w : List ℕ) (old : List Float) (r count : ℕ) (m' : Mesh) (new : List Float) : Type 0 where
  pub number : r ≡ refusal
  pub refused : (r ≡ 0 → ⊥) → (m' ≡ m) × (new ≡ old) × (count ≡ 0)
  pub accepted : r ≡ 0 → Done cell_of m (named_shape m s w) old count m' new
  pub fresh : r ≡ 0 → old ≡ matrix_of m → new ≡ matrix_of (named_shape m s w)
  pub symmetric : r ≡ 0 → Symmetric (nnode m) old → Symmetric (nnode m) new
  pub demand : Ready Choice m s (length old) → KnownName s w → Accepted max_nodes max_panels (named_shape m s w) → r ≡ 0

-- ---- the call's contract
-- a mesh and its matrix
pub record Screen : Type 0 where
  pub mesh : Mesh
  pub cells : List Float

-- six lent columns and a lent matrix, as they were passed and as a call leaves them that may write coordinates and matrix
abbrev pub lent_screen : {A B C : Type 0} → Both (MutBor (List Float)) (MutBor (List Float)) → Both (MutBor (List Float)) (MutBor (List Float)) → Both (MutBor (List Float)) (MutBor (List Float))
    → Both (Bor (List ℕ)) A → Both (Bor (List ℕ)) B → Both (Bor (List ℕ)) C → Both (MutBor (List Float)) (MutBor (List Float)) → Both Screen Screen
lent_screen x y z a b c out = record {
  entry = record { mesh = mesh_of x.entry.now y.entry.now z.entry.now a.entry.now b.entry.now c.entry.now; cells = out.entry.now };
  exit = record { mesh = left_mesh x y z a b c; cells = out.exit.now };
}

-- the same, the panels as a view
abbrev pub screen_on : Both (MutBor (List Float)) (MutBor (List Float)) → Both (MutBor (List Float)) (MutBor (List Float)) → Both (MutBor (List Float)) (MutBor (List Float))
    → PanelColumns → Both (MutBor (List Float)) (MutBor (List Float)) → Both Screen Screen
screen_on x y z p out = record {
  entry = record { mesh = on_panels x.entry.now y.entry.now z.entry.now p; cells = out.entry.now };
  exit = record { mesh = on_panels x.exit.now y.exit.now z.exit.now p; cells = out.exit.now };
}

-- the claim of the call, for a rule by its number
abbrev pub ReturnedBy : ℕ → Both Screen Screen → Store → List ℕ → ℕ → ℕ → Type 0
ReturnedBy number lent s w r count =
    let f = block_under (quadrature_rule number) in
    let m = lent.entry.mesh in
    let old = lent.entry.cells in
    ReturnClaim (NoSuchRule number → ⊥) (cell f) (matrix f) (return_refusal (quadrature_rule number) m s w (length old)) m s w old r count lent.exit.mesh lent.exit.cells

-- the same for a rule that there is
abbrev pub ReturnedUnder : QuadratureKind → Both Screen Screen → Store → List ℕ → ℕ → ℕ → Type 0
ReturnedUnder kind lent s w r count =
    let f = mutual_inductance_block kind in
    let m = lent.entry.mesh in
    let old = lent.entry.cells in
    ReturnClaim Unit (cell f) (matrix f) (shape_refusal m s w (length old)) m s w old r count lent.exit.mesh lent.exit.cells

-- ---- what the functions below the call ask
-- both are accepted, and have as many nodes
pub record ShapeOf (m₁ m : Mesh) : Type 0 where
  pub mesh : Accepted max_nodes max_panels m
  pub shape : Accepted max_nodes max_panels m₁
  pub as_many : nnode m₁ ≡ nnode m

-- the nodes of three columns
abbrev pub nodes_of : List Float → List Float → List Float → Mesh
nodes_of x y z = mesh_of x y z [] [] []

-- every number of a column is one of the format
abbrev pub Numbers : List Float → Type 0
Numbers l = (k : ℕ) → T (fits binary64 (at l k))

-- those of a mesh's three
abbrev pub Coordinates : Mesh → Type 0
Coordinates m = Numbers m.xs × Numbers m.ys × Numbers m.zs

-- a mesh of lent nodes and panels
abbrev pub on_nodes : NodeColumns → PanelColumns → Mesh
on_nodes n p = on_panels n.x.now n.y.now n.z.now p

-- the marks of the nodes that differ
abbrev pub MarksDiffering : Mesh → Mesh → List Bool → Type 0
MarksDiffering m m₁ marks = (a : ℕ) → a < nnode m → marked marks a ≡ differs m m₁ a

-- the rings of these nodes are marked
abbrev pub MarksChanged : Mesh → Mesh → List Bool → List Bool → Type 0
MarksChanged m m₁ old new = MarksRing m (differs m m₁) old new
