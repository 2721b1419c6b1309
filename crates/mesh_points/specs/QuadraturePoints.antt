-- boundary_element/mod.rs: the quadrature points of every panel and their area weights, panel after panel. Definitions only.
use Rattle.std.specs.Prelude.{ℕ, ◌*◌, ◌/◌, ◌%◌, ◌≤◌, ◌≡◌, ◌↔◌, Bool, not, ◌||◌, List, [], ◌∷◌, ◌++◌, eqb, length, set, Float}
use Rattle.binary64.specs.Binary64.{◌⊗◌, at}
use Rattle.math.specs.Math.{Vec}
use Rattle.tri.specs.Mapping.{Tri, area, map_point}
use Rattle.tri.specs.Quadrature.{quadrature_row, quadrature_count, quadrature_rule, NoSuchRule}
use Rattle.tri.specs.declared.quadrature.QuadratureKind.{QuadratureKind}
use Rattle.tri.specs.Quadrature.{Rule}
use Rattle.std.specs.Prelude.{Some, None}
use Rattle.refusal.specs.Numbers.{output_length, no_such_choice, zero_area}
use Rattle.refusal.specs.Checks.{Check, check, first, after}
use Rattle.lists.specs.Columns.{columns_differ, ColumnsDue}
use Rattle.lists.specs.Filling.{tabulate, run}
use Rattle.mesh.specs.Conditions.{Refused4, Accepted, MeshNumbered}
use Rattle.mesh.specs.Mesh.{Mesh, ntri, triangle_nodes, mesh_checks, max_nodes, max_panels}

-- point k of a rule on a triangle, and its weight
unfoldable pub quadrature_point : QuadratureKind → Tri → ℕ → Vec
quadrature_point kind t k = map_point t (at (quadrature_row kind k) 1) (at (quadrature_row kind k) 2)

unfoldable pub quadrature_weight : QuadratureKind → Tri → ℕ → Float
quadrature_weight kind t k = at (quadrature_row kind k) 0 ⊗ area t

-- number j of an output belongs to point j % count of panel j / count
unfoldable pub mesh_points : QuadratureKind → Mesh → ℕ → List Float
mesh_points kind m c =
    tabulate (ntri m * quadrature_count kind) (λ j. at (quadrature_point kind (triangle_nodes m (j / quadrature_count kind)) (j % quadrature_count kind)) c)

unfoldable pub mesh_weights : QuadratureKind → Mesh → List Float
mesh_weights kind m = tabulate (ntri m * quadrature_count kind) (λ j. quadrature_weight kind (triangle_nodes m (j / quadrature_count kind)) (j % quadrature_count kind))

-- ---- the call
-- 6: an output that has not one number a point
abbrev pub point_columns_differ : ℕ → ℕ → ℕ → ℕ → ℕ → Bool
point_columns_differ n lx ly lz lw = columns_differ n lx ly lz || not (eqb lw n)

-- the check after the mesh's, for p panels
abbrev pub point_checks : QuadratureKind → ℕ → ℕ → ℕ → ℕ → ℕ → List Check
point_checks kind p lx ly lz lw = check output_length (point_columns_differ (p * quadrature_count kind) lx ly lz lw) ∷ []

-- the number under a rule, and by the rule's number
unfoldable pub points_refusal : QuadratureKind → Mesh → ℕ → ℕ → ℕ → ℕ → ℕ
points_refusal kind m lx ly lz lw = first (mesh_checks max_nodes max_panels m ++ point_checks kind (ntri m) lx ly lz lw)

abbrev pub rule_refusal : Rule → Mesh → ℕ → ℕ → ℕ → ℕ → ℕ
rule_refusal (Some kind) m lx ly lz lw = points_refusal kind m lx ly lz lw
rule_refusal None m lx ly lz lw = no_such_choice

-- ---- the numbers by their conditions
-- how many points a panel has; none without a rule
abbrev pub points_in : Rule → ℕ
points_in (Some kind) = quadrature_count kind
points_in None = 0

-- not 6: each output has one number a point
pub record PointColumnsDue (points lx ly lz lw : ℕ) : Type 0 where
  pub coordinates : ColumnsDue points lx ly lz
  pub weights : lw ≡ points

abbrev pub OutputsDue : ℕ → Mesh → ℕ → ℕ → ℕ → ℕ → Type 0
OutputsDue number m lx ly lz lw = PointColumnsDue (ntri m * points_in (quadrature_rule number)) lx ly lz lw

-- a number is the call's exactly if its condition holds and no earlier one's
pub record PointsNumbered (number : ℕ) (m : Mesh) (lx ly lz lw r : ℕ) : Type 0 where
  pub is_12 : (r ≡ no_such_choice) ↔ NoSuchRule number
  pub mesh : MeshNumbered (NoSuchRule number → ⊥) max_nodes max_panels m r
  pub is_4 : (r ≡ zero_area) ↔ ((NoSuchRule number → ⊥) × Refused4 max_nodes max_panels m)
  pub is_6 : (r ≡ output_length) ↔ ((NoSuchRule number → ⊥) × Accepted max_nodes max_panels m × (OutputsDue number m lx ly lz lw → ⊥))
  pub is_0 : (r ≡ 0) ↔ ((NoSuchRule number → ⊥) × Accepted max_nodes max_panels m × OutputsDue number m lx ly lz lw)

-- ---- what the call leaves
-- what is due under a rule; with no such rule nothing is written
abbrev pub points_due : Rule → Mesh → ℕ → List Float
points_due (Some kind) m c = mesh_points kind m c
points_due None m c = []

abbrev pub weights_due : Rule → Mesh → List Float
weights_due (Some kind) m = mesh_weights kind m
weights_due None m = []

-- four columns with a point and a weight at index i
pub record StoredPoint (px py pz pw : List Float) (i : ℕ) (v : Vec) (weight : Float) (px' py' pz' pw' : List Float) : Type 0 where
  pub x : px' ≡ set px i (at v 0)
  pub y : py' ≡ set py i (at v 1)
  pub z : pz' ≡ set pz i (at v 2)
  pub weights : pw' ≡ set pw i weight

-- index i is within four columns
pub record Within (i : ℕ) (px py pz pw : List Float) : Type 0 where
  pub x : i ≤ length px
  pub y : i ≤ length py
  pub z : i ≤ length pz
  pub weights : i ≤ length pw

-- four columns with runs of c numbers from index a
pub record Run (px py pz pw : List Float) (a c : ℕ) (f : ℕ → ℕ → Float) (w : ℕ → Float) (px' py' pz' pw' : List Float) : Type 0 where
  pub x : px' ≡ run px a c (f 0) c
  pub y : py' ≡ run py a c (f 1) c
  pub z : pz' ≡ run pz a c (f 2) c
  pub weights : pw' ≡ run pw a c w c

-- the points and weights of one triangle, from index start on
abbrev pub PanelRun : QuadratureKind → Tri → ℕ → List Float → List Float → List Float → List Float → List Float → List Float → List Float → List Float → Type 0
PanelRun kind t start px py pz pw px' py' pz' pw' =
    Run px py pz pw start (quadrature_count kind) (λ c k. at (quadrature_point kind t k) c) (quadrature_weight kind t) px' py' pz' pw'

-- columns of one number a point for a mesh that was accepted
pub record PointsReady (kind : QuadratureKind) (m : Mesh) (px py pz pw : List Float) : Type 0 where
  pub accepted : Accepted max_nodes max_panels m
  pub due : PointColumnsDue (ntri m * quadrature_count kind) (length px) (length py) (length pz) (length pw)

-- the four columns of an accepted mesh
pub record PointsWritten (kind : QuadratureKind) (m : Mesh) (px py pz pw : List Float) : Type 0 where
  pub x : px ≡ mesh_points kind m 0
  pub y : py ≡ mesh_points kind m 1
  pub z : pz ≡ mesh_points kind m 2
  pub weights : pw ≡ mesh_weights kind m

-- what the call answers for a rule and leaves in its four outputs
pub record Points (rule : Rule) (m : Mesh) (px py pz pw : List Float) (r : ℕ) (px' py' pz' pw' : List Float) : Type 0 where
  pub number : r ≡ rule_refusal rule m (length px) (length py) (length pz) (length pw)
  pub x : px' ≡ after r (points_due rule m 0) px
  pub y : py' ≡ after r (points_due rule m 1) py
  pub z : pz' ≡ after r (points_due rule m 2) pz
  pub weights : pw' ≡ after r (weights_due rule m) pw

-- the same for a rule by its number, and for a rule that there is
abbrev pub PointsBy : ℕ → Mesh → List Float → List Float → List Float → List Float → ℕ → List Float → List Float → List Float → List Float → Type 0
PointsBy number m px py pz pw r px' py' pz' pw' = Points (quadrature_rule number) m px py pz pw r px' py' pz' pw'

abbrev pub PointsUnder : QuadratureKind → Mesh → List Float → List Float → List Float → List Float → ℕ → List Float → List Float → List Float → List Float → Type 0
PointsUnder kind m px py pz pw r px' py' pz' pw' = Points (Some kind) m px py pz pw r px' py' pz' pw'
