-- The conditions of the store's numbers in words, and what the numbers of saving and dropping are to be by them. Definitions only.
use Rattle.std.specs.Prelude.{◌≡◌, ◌↔◌, List, ℕ, ◌+◌, ◌*◌, ◌<◌, length, get_or}
use Rattle.refusal.specs.Numbers.{output_length, zero_area, unknown_name, no_place}
use Rattle.lists.specs.Columns.{ColumnsDue}
use Rattle.lists.specs.Stretch.{stretch}
use Rattle.mesh.specs.Mesh.{Mesh, nnode, max_nodes, max_panels}
use Rattle.mesh.specs.Conditions.{Refused4, Accepted, MeshNumbered}
use Rattle.shape_store.specs.Store.{Store, places, name_length}

-- not 6: eight places of n nodes
pub record StoreSized (n : ℕ) (s : Store) : Type 0 where
  pub marks-long : length s.marks ≡ places
  pub names-long : length s.names ≡ places * name_length
  pub columns : ColumnsDue (places * n) (length s.xs) (length s.ys) (length s.zs)

-- place p has a mark other than 0
abbrev pub Held : Store → ℕ → Type 0
Held s p = get_or s.marks p 0 ≡ 0 → ⊥

-- place p is held under the name w
pub record HoldsName (s : Store) (w : List ℕ) (p : ℕ) : Type 0 where
  pub within : p < places
  pub held : Held s p
  pub name : (k : ℕ) → k < name_length → get_or s.names (p * name_length + k) 0 ≡ get_or w k 0

-- the names differ in a byte
abbrev pub OtherName : List ℕ → List ℕ → Type 0
OtherName v w = (k : ℕ) × (k < name_length) × (get_or v k 0 ≡ get_or w k 0 → ⊥)

-- 17
abbrev pub UnknownName : Store → List ℕ → Type 0
UnknownName s w = (p : ℕ) → HoldsName s w p → ⊥

-- not 17
abbrev pub KnownName : Store → List ℕ → Type 0
KnownName s w = (p : ℕ) × HoldsName s w p

-- 18: a new name, and every place is held
pub record NoPlace (s : Store) (w : List ℕ) : Type 0 where
  pub new : UnknownName s w
  pub full : (p : ℕ) → p < places → Held s p

-- p is the first place that holds the name
pub record FirstPlace (s : Store) (w : List ℕ) (p : ℕ) : Type 0 where
  pub holds : HoldsName s w p
  pub before : (q : ℕ) → q < p → HoldsName s w q → ⊥

-- p is the first free place
pub record FirstFree (s : Store) (p : ℕ) : Type 0 where
  pub within : p < places
  pub free : get_or s.marks p 0 ≡ 0
  pub before : (q : ℕ) → q < p → Held s q

-- place q of a store for n nodes is as it was: its mark, its name and its coordinates
pub record PlaceKept (n : ℕ) (s s' : Store) (q : ℕ) : Type 0 where
  pub mark : get_or s'.marks q 0 ≡ get_or s.marks q 0
  pub name : stretch s'.names name_length q ≡ stretch s.names name_length q
  pub xs : stretch s'.xs n q ≡ stretch s.xs n q
  pub ys : stretch s'.ys n q ≡ stretch s.ys n q
  pub zs : stretch s'.zs n q ≡ stretch s.zs n q

-- q is the next place behind p that holds the name
pub record NextPlace (s : Store) (w : List ℕ) (p q : ℕ) : Type 0 where
  pub behind : p < q
  pub holds : HoldsName s w q
  pub between : (k : ℕ) → p < k → k < q → HoldsName s w k → ⊥

-- a number is that of saving exactly if its condition holds and no earlier one's
pub record SaveNumbered (m : Mesh) (s : Store) (w : List ℕ) (r : ℕ) : Type 0 where
  pub mesh : MeshNumbered Unit max_nodes max_panels m r
  pub is_4 : (r ≡ zero_area) ↔ Refused4 max_nodes max_panels m
  pub is_6 : (r ≡ output_length) ↔ (Accepted max_nodes max_panels m × (StoreSized (nnode m) s → ⊥))
  pub is_18 : (r ≡ no_place) ↔ (Accepted max_nodes max_panels m × StoreSized (nnode m) s × NoPlace s w)
  pub is_0 : (r ≡ 0) ↔ (Accepted max_nodes max_panels m × StoreSized (nnode m) s × (NoPlace s w → ⊥))

-- the same of dropping
pub record DropNumbered (m : Mesh) (s : Store) (w : List ℕ) (r : ℕ) : Type 0 where
  pub mesh : MeshNumbered Unit max_nodes max_panels m r
  pub is_4 : (r ≡ zero_area) ↔ Refused4 max_nodes max_panels m
  pub is_6 : (r ≡ output_length) ↔ (Accepted max_nodes max_panels m × (StoreSized (nnode m) s → ⊥))
  pub is_17 : (r ≡ unknown_name) ↔ (Accepted max_nodes max_panels m × StoreSized (nnode m) s × UnknownName s w)
  pub is_0 : (r ≡ 0) ↔ (Accepted max_nodes max_panels m × StoreSized (nnode m) s × KnownName s w)
