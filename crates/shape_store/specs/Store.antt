-- CR 5's store: eight places for shapes of one mesh, each with a mark, a name of eight bytes and the coordinates of every node, lent as five slices; saving a shape and dropping one. Definitions only.
use Rattle.std.specs.Prelude.{◌≡◌, Bool, not, ◌&&◌, ◌||◌, cond, List, [], ◌∷◌, ◌++◌, ℕ, ◌+◌, ◌*◌, ◌<◌, ◌≤◌, eqb, nat_lt, Option, Some, None, length, get_or, set, Float}
use Rattle.std.proofs.Math.Seq.{paste}
use Rattle.std.specs.Borrow.{Bor, MutBor}
use denote.Triple.Both.{Both}
use Rattle.mesh.specs.declared.columns.NodeColumns.{NodeColumns}
use Rattle.shape_store.specs.declared.ShapeStore.{ShapeStore}
use Rattle.refusal.specs.Numbers.{output_length, unknown_name, no_place}
use Rattle.refusal.specs.Checks.{Check, check, first}
use Rattle.lists.specs.Columns.{columns_differ, ColumnsDue}
use Rattle.lists.specs.Counting.{some_below, next_from}
use Rattle.lists.specs.Stretch.{stretch}
use Rattle.mesh.specs.Mesh.{Mesh, mesh_of, nnode, mesh_checks, max_nodes, max_panels}

-- place p has mark p, the name's bytes from 8 p on, and of each column the n numbers from p n on, n being the mesh's node count
pub record Store : Type 0 where
  pub marks : List ℕ
  pub names : List ℕ
  pub xs : List Float
  pub ys : List Float
  pub zs : List Float

abbrev pub store_of : List ℕ → List ℕ → List Float → List Float → List Float → Store
store_of marks names x y z = record { marks = marks; names = names; xs = x; ys = y; zs = z }

abbrev pub places : ℕ
places = 8

abbrev pub name_length : ℕ
name_length = 8

-- ---- a lent store, as a contract names it
abbrev pub with_shapes : List ℕ → List ℕ → NodeColumns → Store
with_shapes marks names n = store_of marks names n.x.now n.y.now n.z.now

abbrev pub viewed_store : ShapeStore → Store
viewed_store s = with_shapes s.marks.now s.names.now s.shapes

-- five lent slices, as the C interface has them
abbrev pub lent_store : Bor (List ℕ) → Bor (List ℕ) → Bor (List Float) → Bor (List Float) → Bor (List Float) → Store
lent_store marks names x y z = store_of marks.now names.now x.now y.now z.now

-- as they were passed
abbrev pub passed_store : {A B X Y Z : Type 0} → Both (Bor (List ℕ)) A → Both (Bor (List ℕ)) B
    → Both (Bor (List Float)) X → Both (Bor (List Float)) Y → Both (Bor (List Float)) Z → Store
passed_store marks names x y z = lent_store marks.entry names.entry x.entry y.entry z.entry

-- as a call leaves them that may write all five
abbrev pub left_store : Both (MutBor (List ℕ)) (MutBor (List ℕ)) → Both (MutBor (List ℕ)) (MutBor (List ℕ))
    → Both (MutBor (List Float)) (MutBor (List Float)) → Both (MutBor (List Float)) (MutBor (List Float)) → Both (MutBor (List Float)) (MutBor (List Float)) → Store
left_store marks names x y z = store_of marks.exit.now names.exit.now x.exit.now y.exit.now z.exit.now

-- as a call leaves them that may write the marks
abbrev pub left_marks : {B X Y Z : Type 0} → Both (MutBor (List ℕ)) (MutBor (List ℕ)) → Both (Bor (List ℕ)) B
    → Both (Bor (List Float)) X → Both (Bor (List Float)) Y → Both (Bor (List Float)) Z → Store
left_marks marks names x y z = store_of marks.exit.now names.entry.now x.entry.now y.entry.now z.entry.now

-- ---- places
-- any mark but 0
abbrev pub is_held : Store → ℕ → Bool
is_held s p = not (eqb (get_or s.marks p 0) 0)

-- the eight bytes at place p are those of the name w
unfoldable pub same_name : List ℕ → List ℕ → ℕ → Bool
same_name names w p = not (some_below (λ k. not (eqb (get_or names (p * name_length + k) 0) (get_or w k 0))) name_length)

-- the place p, if it is one of the eight
abbrev pub place_below : ℕ → Option ℕ
place_below p = cond (nat_lt p places) (Some p) None

-- a free place holds no name, whatever its bytes are
abbrev pub holds_name : Store → List ℕ → ℕ → Bool
holds_name s w p = is_held s p && same_name s.names w p

-- the first place that holds the name, 8 if none does
abbrev pub place_of : Store → List ℕ → ℕ
place_of s w = next_from (holds_name s w) 0 places

-- the first free place, 8 if there is none
abbrev pub free_place : Store → ℕ
free_place s = next_from (λ p. not (is_held s p)) 0 places

abbrev pub lacks_name : Store → List ℕ → Bool
lacks_name s w = eqb (place_of s w) places

-- where a shape of that name is saved: a held name's own place, the first free place for a new one; 8 if there is none
abbrev pub place_for : Store → List ℕ → ℕ
place_for s w = cond (lacks_name s w) (free_place s) (place_of s w)

-- the shape at place p of a store for the mesh m: its coordinates, and m's panels
abbrev pub shape_of : Mesh → Store → ℕ → Mesh
shape_of m s p = mesh_of (stretch s.xs (nnode m) p) (stretch s.ys (nnode m) p) (stretch s.zs (nnode m) p) m.t0 m.t1 m.t2

-- ---- what is saved and dropped
-- a column of the store with the numbers of a mesh's column at place p
abbrev pub column_with : List Float → ℕ → List Float → List Float
column_with column p numbers = paste column (p * length numbers) numbers (length numbers)

-- a held name keeps its mark; a new one takes the place p with the mark 1
abbrev pub marks_with : Store → List ℕ → ℕ → List ℕ
marks_with s w p = cond (lacks_name s w) (set s.marks p 1) s.marks

abbrev pub names_with : Store → List ℕ → ℕ → List ℕ
names_with s w p = cond (lacks_name s w) (paste s.names (p * name_length) w name_length) s.names

unfoldable pub saved : Mesh → Store → List ℕ → Store
saved m s w =
    let p = place_for s w in
    store_of (marks_with s w p) (names_with s w p) (column_with s.xs p m.xs) (column_with s.ys p m.ys) (column_with s.zs p m.zs)

-- the mark alone is written
unfoldable pub dropped : Store → List ℕ → Store
dropped s w = store_of (set s.marks (place_of s w) 0) s.names s.xs s.ys s.zs

-- ---- the numbers
-- 6: not eight places of n nodes
unfoldable pub store_differs : ℕ → Store → Bool
store_differs n s =
    not (eqb (length s.marks) places)
    || (not (eqb (length s.names) (places * name_length)) || columns_differ (places * n) (length s.xs) (length s.ys) (length s.zs))

abbrev pub save_checks : Mesh → Store → List ℕ → List Check
save_checks m s w = check output_length (store_differs (nnode m) s) ∷ check no_place (eqb (place_for s w) places) ∷ []

-- 1, 2, 11, 3, 4, 6, 18
unfoldable pub save_refusal : Mesh → Store → List ℕ → ℕ
save_refusal m s w = first (mesh_checks max_nodes max_panels m ++ save_checks m s w)

abbrev pub drop_checks : Mesh → Store → List ℕ → List Check
drop_checks m s w = check output_length (store_differs (nnode m) s) ∷ check unknown_name (lacks_name s w) ∷ []

-- 1, 2, 11, 3, 4, 6, 17
unfoldable pub drop_refusal : Mesh → Store → List ℕ → ℕ
drop_refusal m s w = first (mesh_checks max_nodes max_panels m ++ drop_checks m s w)

-- ---- the claims: a call that answers r leaves the store s'
pub record Saved (m : Mesh) (s : Store) (w : List ℕ) (r : ℕ) (s' : Store) : Type 0 where
  pub number : r ≡ save_refusal m s w
  pub refused : (r ≡ 0 → ⊥) → s' ≡ s
  pub done : r ≡ 0 → s' ≡ saved m s w

pub record Dropped (m : Mesh) (s : Store) (w : List ℕ) (r : ℕ) (s' : Store) : Type 0 where
  pub number : r ≡ drop_refusal m s w
  pub refused : (r ≡ 0 → ⊥) → s' ≡ s
  pub done : r ≡ 0 → s' ≡ dropped s w

-- ---- what the functions below the calls give and ask
-- the number of mesh and store, before the name is looked for
unfoldable pub store_refusal : Mesh → Store → ℕ
store_refusal m s = first (mesh_checks max_nodes max_panels m ++ check output_length (store_differs (nnode m) s) ∷ [])

-- three columns of one length, and room for them at place p
pub record ColumnsReady (s : Store) (x y z : List Float) (p : ℕ) : Type 0 where
  pub second : length y ≡ length x
  pub third : length z ≡ length x
  pub room : ColumnsDue (places * length x) (length s.xs) (length s.ys) (length s.zs)
  pub small : length x ≤ max_nodes
  pub within : p < places
