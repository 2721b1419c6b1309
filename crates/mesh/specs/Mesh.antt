-- A triangle mesh in column form and its test, `validate_triangle_mesh_geometry` of src/mesh/triangle3d.rs with document 01's numbers. Definitions only.
-- A mesh is a value: three coordinate columns and three index columns. What reads panels from lent columns, from columns with one place changed or from a file's bytes
-- equates what it reads with `triangle_nodes` and `triangle_indices` of such a value, and the tests and laws are over these.
use Rattle.std.specs.Prelude.{Bool, not, ◌||◌, cond, List, [], ◌∷◌, map, ℕ, leb, ltb, eqb, length, get_or, Float}
use Rattle.std.specs.Float.Ieee.{lt}
use Rattle.std.specs.Borrow.{Bor, MutBor}
use denote.Triple.Both.{Both}
use Rattle.binary64.specs.Binary64.{◌⊕◌, ◌⊖◌, ◌⊗◌, ◌⊘◌, bits, at, four}
use Rattle.ieee754.specs.Ieee754.{sqrt}
use Rattle.tri.specs.Mapping.{area}
use Rattle.refusal.specs.Numbers.{node_columns, panel_columns, missing_node, zero_area, too_large}
use Rattle.refusal.specs.Checks.{Check, check, first}
use Rattle.lists.specs.Counting.{any_of, some_below, count_below}

-- coordinates of the nodes, and the nodes of each panel's three corners
pub record Mesh : Type 0 where
  pub xs : List Float
  pub ys : List Float
  pub zs : List Float
  pub t0 : List ℕ
  pub t1 : List ℕ
  pub t2 : List ℕ

abbrev pub mesh_of : List Float → List Float → List Float → List ℕ → List ℕ → List ℕ → Mesh
mesh_of x y z a b c = record { xs = x; ys = y; zs = z; t0 = a; t1 = b; t2 = c }

-- ---- six lent columns, as a contract names them
-- where a call is entered, in a `requires`
abbrev pub lent_mesh : Bor (List Float) → Bor (List Float) → Bor (List Float) → Bor (List ℕ) → Bor (List ℕ) → Bor (List ℕ) → Mesh
lent_mesh x y z a b c = mesh_of x.now y.now z.now a.now b.now c.now

-- as they were passed, in an `ensures`
abbrev pub passed_mesh : {X Y Z A B C : Type 0} → Both (Bor (List Float)) X → Both (Bor (List Float)) Y → Both (Bor (List Float)) Z
    → Both (Bor (List ℕ)) A → Both (Bor (List ℕ)) B → Both (Bor (List ℕ)) C → Mesh
passed_mesh x y z a b c = lent_mesh x.entry y.entry z.entry a.entry b.entry c.entry

-- as a call leaves them that may write the coordinates
abbrev pub left_mesh : {A B C : Type 0} → Both (MutBor (List Float)) (MutBor (List Float)) → Both (MutBor (List Float)) (MutBor (List Float)) → Both (MutBor (List Float)) (MutBor (List Float))
    → Both (Bor (List ℕ)) A → Both (Bor (List ℕ)) B → Both (Bor (List ℕ)) C → Mesh
left_mesh x y z a b c = mesh_of x.exit.now y.exit.now z.exit.now a.entry.now b.entry.now c.entry.now

-- as a call leaves them that may write all six
abbrev pub written_mesh : Both (MutBor (List Float)) (MutBor (List Float)) → Both (MutBor (List Float)) (MutBor (List Float)) → Both (MutBor (List Float)) (MutBor (List Float))
    → Both (MutBor (List ℕ)) (MutBor (List ℕ)) → Both (MutBor (List ℕ)) (MutBor (List ℕ)) → Both (MutBor (List ℕ)) (MutBor (List ℕ)) → Mesh
written_mesh x y z a b c = mesh_of x.exit.now y.exit.now z.exit.now a.exit.now b.exit.now c.exit.now

-- ---- its parts
abbrev pub nnode : Mesh → ℕ
nnode m = length m.xs

-- the number of panels
abbrev pub ntri : Mesh → ℕ
ntri m = length m.t0

abbrev pub node : Mesh → ℕ → List Float
node m k = at m.xs k ∷ at m.ys k ∷ at m.zs k ∷ []

-- the nodes of panel i in corner order; one node may stand twice
abbrev pub triangle_indices : Mesh → ℕ → List ℕ
triangle_indices m i = get_or m.t0 i 0 ∷ get_or m.t1 i 0 ∷ get_or m.t2 i 0 ∷ []

abbrev pub triangle_nodes : Mesh → ℕ → List (List Float)
triangle_nodes m i = map (node m) (triangle_indices m i)

-- ---- the tests
-- 1 and 2: three columns that are not of one length
unfoldable pub lengths_differ : ℕ → ℕ → ℕ → Bool
lengths_differ a b c = not (eqb b a) || not (eqb c a)

-- 11: more nodes or panels than the call takes
unfoldable pub passes_limits : ℕ → ℕ → ℕ → ℕ → Bool
passes_limits max_nodes max_panels n p = ltb max_nodes n || ltb max_panels p

-- 3: an index that is not below the node count n
unfoldable pub misses_node : ℕ → List ℕ → Bool
misses_node n indices = any_of (leb n) indices

-- 4: an area below 1e-14. A NaN area is not below it.
abbrev pub smallest_area : Float
smallest_area = bits 0x3d06_849b_86a1_2b9b

unfoldable pub is_zero_area : List (List Float) → Bool
is_zero_area t = lt (area t) smallest_area

-- 3 and 4 over all panels
abbrev pub some_misses : ℕ → Mesh → Bool
some_misses n m = some_below (λ i. misses_node n (triangle_indices m i)) (ntri m)

abbrev pub some_misses_node : Mesh → Bool
some_misses_node m = some_misses (nnode m) m

abbrev pub some_zero_area : Mesh → Bool
some_zero_area m = some_below (λ i. is_zero_area (triangle_nodes m i)) (ntri m)

unfoldable pub mesh_checks : ℕ → ℕ → Mesh → List Check
mesh_checks max_nodes max_panels m =
    check node_columns (lengths_differ (length m.xs) (length m.ys) (length m.zs))
    ∷ check panel_columns (lengths_differ (length m.t0) (length m.t1) (length m.t2))
    ∷ check too_large (passes_limits max_nodes max_panels (nnode m) (ntri m))
    ∷ check missing_node (some_misses_node m)
    ∷ check zero_area (some_zero_area m)
    ∷ []

-- Document 01's "accepted": a mesh for which this is 0, with the limits of the call.
unfoldable pub mesh_refusal : ℕ → ℕ → Mesh → ℕ
mesh_refusal max_nodes max_panels m = first (mesh_checks max_nodes max_panels m)

-- the limits of every call but the program `density`
abbrev pub max_nodes : ℕ
max_nodes = 4096

abbrev pub max_panels : ℕ
max_panels = 8192

-- ---- poor panels
-- the square of the distance of two points, nothing fused
unfoldable pub edge_sq : List Float → List Float → Float
edge_sq a b =
    (at a 0 ⊖ at b 0) ⊗ (at a 0 ⊖ at b 0) ⊕ (at a 1 ⊖ at b 1) ⊗ (at a 1 ⊖ at b 1) ⊕ (at a 2 ⊖ at b 2) ⊗ (at a 2 ⊖ at b 2)

-- 4 · √3 · area / sum of the squared edges: 1 for equal edges, towards 0 for a sliver
unfoldable pub quality : List (List Float) → Float
quality t =
    four ⊗ sqrt (bits 0x4008_0000_0000_0000) ⊗ area t
    ⊘ (edge_sq (get_or t 0 []) (get_or t 1 []) ⊕ edge_sq (get_or t 1 []) (get_or t 2 []) ⊕ edge_sq (get_or t 2 []) (get_or t 0 []))

-- 1e-3
abbrev pub lowest_quality : Float
lowest_quality = bits 0x3f50_624d_d2f1_a9fc

unfoldable pub is_poor : List (List Float) → Bool
is_poor t = lt (quality t) lowest_quality

-- how many panels the original would warn about
unfoldable pub poor_panels : Mesh → ℕ
poor_panels m = count_below (λ i. is_poor (triangle_nodes m i)) (ntri m)

-- the mesh test's count: none on a refusal
unfoldable pub tested_count : Mesh → ℕ → ℕ
tested_count m r = cond (eqb r 0) (poor_panels m) 0
