-- What saving leaves at its own place and at every other, from what it leaves of each list: a new name's mark and bytes are written, a held name's are not, and the coordinates are a copy.
use mathlib.Core.Path.{◌≡◌, refl, sym, ap, ◌∙◌, subst}
use mathlib.Core.Bool.{Bool, true, false, cond}
use mathlib.Core.List.{List, []}
use Prim.Native.Nat.{ℕ, ◌+◌, ◌*◌, ◌<◌, ◌≤◌}
use native.Mathlib.Nat.{le_of_eq, suc-ne-zero}
use native.Mathlib.Omega.{arith}
use lib.ListN.{length, get_or, set, length-set}
use lib.Seq.{paste, length-paste, get_or-set_same, get_or-set_other}
use lib.Ieee.{Float}
use Rattle.lists.specs.Stretch.{stretch}
use Rattle.mesh.specs.Mesh.{Mesh, mesh_of, nnode, max_nodes, max_panels}
use Rattle.mesh.specs.Conditions.{Accepted}
use Rattle.shape_store.specs.Store.{Store, store_of, places, name_length, place_of, place_for, free_place, lacks_name, shape_of, column_with}
use Rattle.shape_store.specs.Conditions.{StoreSized, HoldsName, OtherName, PlaceKept}
use Rattle.shape_store.proofs.Places.{free-there, place-within, place-holds, place-before, first-placed, name_unknown}
use Rattle.lists.proofs.Stretches.{row_end, stretch_at, paste_own, paste_other}
use Rattle.shape_store.proofs.Calls.{SavedParts}

-- ---- a column of eight shapes of n numbers
module _ (column numbers : List Float) (n p : ℕ) (long : length numbers ≡ n) (room : p * n + n ≤ length column) where
  same : column_with column p numbers ≡ paste column (p * n) numbers n
  same = ap (λ (k : ℕ). paste column (p * k) numbers k) long

  pub column_own : stretch (column_with column p numbers) n p ≡ numbers
  column_own = ap (λ (c : List Float). stretch c n p) same ∙ paste_own column n p numbers room long

  pub column_other : (q : ℕ) → (q ≡ p → ⊥) → stretch (column_with column p numbers) n q ≡ stretch column n q
  column_other q h = ap (λ (c : List Float). stretch c n q) same ∙ paste_other column n p numbers room long q h

  pub column-long : length (column_with column p numbers) ≡ length column
  column-long = ap length same ∙ length-paste column (p * n) numbers n room (le_of_eq (sym long))

-- ---- a place that is as it was holds no other name
pub kept-holds : {n : ℕ} {s s' : Store} {w : List ℕ} {q : ℕ} → PlaceKept n s s' q → HoldsName s' w q → HoldsName s w q
kept-holds {n} {s} {s'} {w} {q} k h =
    record {
      within = h.within;
      held = λ e. h.held (k.mark ∙ e);
      name = λ i l.
          sym (stretch_at s.names name_length q 0 i l)
          ∙ ap (λ (b : List ℕ). get_or b i 0) (sym k.name)
          ∙ stretch_at s'.names name_length q 0 i l
          ∙ h.name i l;
    }

pub kept_back : {n : ℕ} {s s' : Store} {q : ℕ} → PlaceKept n s s' q → PlaceKept n s' s q
kept_back k = record { mark = sym k.mark; name = sym k.name; xs = sym k.xs; ys = sym k.ys; zs = sym k.zs }

-- a place holds one name
pub two-names : {s : Store} {v w : List ℕ} {p : ℕ} → OtherName v w → HoldsName s v p → HoldsName s w p → ⊥
two-names o a b = o.2 (sym (a.name o.0 o.1) ∙ b.name o.0 o.1)

-- where every place but p is as it was, a name that p held neither before nor after is found where it was, and so is its shape
pub names-kept : (m : Mesh) (s s' : Store) (p : ℕ) (v : List ℕ)
    → ((q : ℕ) → (q ≡ p → ⊥) → PlaceKept (nnode m) s s' q) → (HoldsName s v p → ⊥) → (HoldsName s' v p → ⊥) → lacks_name s v ≡ false
    → (place_of s' v ≡ place_of s v) × (shape_of m s' (place_of s' v) ≡ shape_of m s (place_of s v))
names-kept m s s' p v kept not-before not_after known =
    let h = place-holds s v (place-within s v known) in
    let k = kept (place_of s v) (λ e. not-before (subst (HoldsName s v) e h)) in
    let e = first-placed s' v (place_of s v)
    (record {
      holds = kept-holds (kept_back k) h;
      before = λ q l j. place-before s v q l (kept-holds (kept q (λ z. not_after (subst (HoldsName s' v) z j))) j);
    }) in
    (e, ap (shape_of m s') e ∙ (λ i. mesh_of (k.xs i) (k.ys i) (k.zs i) m.t0 m.t1 m.t2))

module _ (m : Mesh) (s : Store) (w : List ℕ) (p : ℕ) (s' : Store) (accepted : Accepted max_nodes max_panels m) (sized : StoreSized (nnode m) s) (within : p < places) (long : length w ≡ name_length)
    (parts : SavedParts m s w p s') where
  -- ---- marks and names
  named-room : p * name_length + name_length ≤ length s.names
  named-room = omega (arith, within, sized.names-long)

  new-marks : lacks_name s w ≡ true → s'.marks ≡ set s.marks p 1
  new-marks e = parts.marks ∙ ap (λ (b : Bool). cond b (set s.marks p 1) s.marks) e

  old_marks : lacks_name s w ≡ false → s'.marks ≡ s.marks
  old_marks e = parts.marks ∙ ap (λ (b : Bool). cond b (set s.marks p 1) s.marks) e

  new-names : lacks_name s w ≡ true → s'.names ≡ paste s.names (p * name_length) w name_length
  new-names e = parts.names ∙ ap (λ (b : Bool). cond b (paste s.names (p * name_length) w name_length) s.names) e

  old_names : lacks_name s w ≡ false → s'.names ≡ s.names
  old_names e = parts.names ∙ ap (λ (b : Bool). cond b (paste s.names (p * name_length) w name_length) s.names) e

  -- ---- the coordinates
  ys_long : length m.ys ≡ nnode m
  ys_long = accepted.nodes_alike.ys_long

  zs_long : length m.zs ≡ nnode m
  zs_long = accepted.nodes_alike.zs_long

  room : (column : List Float) → length column ≡ places * nnode m → p * nnode m + nnode m ≤ length column
  room column e = omega (arith, row_end places (nnode m) p within, e)

  xs_room : p * nnode m + nnode m ≤ length s.xs
  xs_room = room s.xs sized.columns.first

  ys_room : p * nnode m + nnode m ≤ length s.ys
  ys_room = room s.ys sized.columns.second

  zs_room : p * nnode m + nnode m ≤ length s.zs
  zs_room = room s.zs sized.columns.third

  pub shape-saved : shape_of m s' p ≡ m
  shape-saved =
      let n = nnode m in
      let x = ap (λ (c : List Float). stretch c n p) parts.xs ∙ column_own s.xs m.xs n p refl xs_room in
      let y = ap (λ (c : List Float). stretch c n p) parts.ys ∙ column_own s.ys m.ys n p ys_long ys_room in
      let z = ap (λ (c : List Float). stretch c n p) parts.zs ∙ column_own s.zs m.zs n p zs_long zs_room in
      (λ i. mesh_of (x i) (y i) (z i) m.t0 m.t1 m.t2)

  pub others_kept : (q : ℕ) → (q ≡ p → ⊥) → PlaceKept (nnode m) s s' q
  others_kept q h =
      let n = nnode m in
      let both = named (lacks_name s w) refl in
      record {
        mark = both.0;
        name = both.1;
        xs = ap (λ (c : List Float). stretch c n q) parts.xs ∙ column_other s.xs m.xs n p refl xs_room q h;
        ys = ap (λ (c : List Float). stretch c n q) parts.ys ∙ column_other s.ys m.ys n p ys_long ys_room q h;
        zs = ap (λ (c : List Float). stretch c n q) parts.zs ∙ column_other s.zs m.zs n p zs_long zs_room q h;
      }
    where
      named : (b : Bool) → lacks_name s w ≡ b → (get_or s'.marks q 0 ≡ get_or s.marks q 0) × (stretch s'.names name_length q ≡ stretch s.names name_length q)
      named true e = (
        ap (λ (l : List ℕ). get_or l q 0) (new-marks e) ∙ get_or-set_other s.marks p q 1 0 h,
        ap (λ (l : List ℕ). stretch l name_length q) (new-names e) ∙ paste_other s.names name_length p w named-room long q h,
      )
      named false e = (ap (λ (l : List ℕ). get_or l q 0) (old_marks e), ap (λ (l : List ℕ). stretch l name_length q) (old_names e))

  pub sized_still : StoreSized (nnode m) s'
  sized_still =
      let n = nnode m in
      let both = named (lacks_name s w) refl in
      record {
        marks-long = both.0 ∙ sized.marks-long;
        names-long = both.1 ∙ sized.names-long;
        columns = record {
          first = ap length parts.xs ∙ column-long s.xs m.xs n p refl xs_room ∙ sized.columns.first;
          second = ap length parts.ys ∙ column-long s.ys m.ys n p ys_long ys_room ∙ sized.columns.second;
          third = ap length parts.zs ∙ column-long s.zs m.zs n p zs_long zs_room ∙ sized.columns.third;
        };
      }
    where
      named : (b : Bool) → lacks_name s w ≡ b → (length s'.marks ≡ length s.marks) × (length s'.names ≡ length s.names)
      named true e = (
        ap length (new-marks e) ∙ length-set s.marks p 1,
        ap length (new-names e) ∙ length-paste s.names (p * name_length) w name_length named-room (le_of_eq (sym long)),
      )
      named false e = (ap length (old_marks e), ap length (old_names e))

  -- ---- the place is the name's
  new-holds : lacks_name s w ≡ true → HoldsName s' w p
  new-holds e =
      let mark = ap (λ (l : List ℕ). get_or l p 0) (new-marks e) ∙ get_or-set_same s.marks p 1 0 (omega (arith, within, sized.marks-long)) in
      let own = ap (λ (l : List ℕ). stretch l name_length p) (new-names e) ∙ paste_own s.names name_length p w named-room long in
      record {
        within = within;
        held = λ z. suc-ne-zero 0 (sym mark ∙ z);
        name = λ k l. sym (stretch_at s'.names name_length p 0 k l) ∙ ap (λ (b : List ℕ). get_or b k 0) own;
      }

  pub place-saved : p ≡ place_for s w → place_of s' w ≡ p
  place-saved h = go (lacks_name s w) refl
    where
      go : (b : Bool) → lacks_name s w ≡ b → place_of s' w ≡ p
      go true e =
          first-placed s' w p
          (record { holds = new-holds e; before = λ q l k. (name_unknown s w).0 e q (kept-holds (others_kept q (λ z. omega (arith, l, z))) k) })
      go false e =
          (λ i. place_of (store_of (old_marks e i) (old_names e i) [] [] []) w)
          ∙ sym (h ∙ ap (λ (b : Bool). cond b (free_place s) (place_of s w)) e)

  -- every other name is found where it was, with its shape
  pub names-saved : (v : List ℕ) → OtherName v w → p ≡ place_for s w → lacks_name s v ≡ false
      → (place_of s' v ≡ place_of s v) × (shape_of m s' (place_of s' v) ≡ shape_of m s (place_of s v))
  names-saved v o h =
      let e = place-saved h in
      let after = subst (HoldsName s' w) e (place-holds s' w (omega (arith, e, within))) in
      names-kept m s s' p v others_kept (not-before (lacks_name s w) refl) (λ k. two-names o k after)
    where
      not-before : (b : Bool) → lacks_name s w ≡ b → HoldsName s v p → ⊥
      not-before true e k =
          let f = h ∙ ap (λ (b : Bool). cond b (free_place s) (place_of s w)) e in
          k.held (subst (λ (q : ℕ). get_or s.marks q 0 ≡ 0) (sym f) (free-there s (omega (arith, f, within))))
      not-before false e k =
          let f = h ∙ ap (λ (b : Bool). cond b (free_place s) (place_of s w)) e in
          two-names o k (subst (HoldsName s w) (sym f) (place-holds s w (place-within s w e)))
