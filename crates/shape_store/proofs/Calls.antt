-- What a call that is not refused may build on: an accepted mesh, a store of its size and a place below eight. And what saving leaves, list by list.
use mathlib.Core.Path.{◌≡◌, refl, sym, ap, ◌∙◌}
use mathlib.Core.Bool.{Bool, true, false, not, cond}
use mathlib.Core.List.{List, [], ◌∷◌, ◌++◌, append_assoc}
use Prim.Native.Nat.{ℕ, ◌+◌, ◌<◌, ◌≤◌}
use native.Mathlib.Omega.{arith}
use native.Mathlib.Nat.{suc-ne-zero}
use borrow.Author.Tests.{eqb-false, eq-eqb, ne_eqb}
use lib.Dec.{eqb}
use lib.ListN.{length, set, take, drop}
use lib.Seq.{paste, take-length}
use Rattle.lists.specs.Putting.{Put}
use Rattle.lists.proofs.First.{next_bounds}
use Rattle.refusal.specs.Numbers.{output_length, unknown_name, no_place}
use Rattle.refusal.specs.Checks.{Check, check, first}
use Rattle.refusal.proofs.Checks.{none-applies, first_stopped, first-passed}
use Rattle.mesh.specs.Mesh.{Mesh, nnode, mesh_checks, max_nodes, max_panels}
use Rattle.mesh.specs.Conditions.{Accepted}
use Rattle.mesh.proofs.Refusals.{mesh-accepted}
use Rattle.shape_store.specs.Store.{Store, store_of, places, holds_name, is_held, place_of, free_place, place_for, lacks_name, column_with, marks_with, names_with, saved, dropped, Saved, Dropped, save_checks, save_refusal, drop_checks, drop_refusal, store_differs, store_refusal}
use Rattle.shape_store.specs.Conditions.{StoreSized}
use Rattle.shape_store.proofs.Places.{store_off, place-within}

-- no place lies beyond the eighth
pub for_bounds : (s : Store) (w : List ℕ) → place_for s w ≤ places
for_bounds s w = go (lacks_name s w)
  where
    go : (b : Bool) → cond b (free_place s) (place_of s w) ≤ places
    go true = omega (arith, (next_bounds (λ p. not (is_held s p)) 0 places).1)
    go false = omega (arith, (next_bounds (holds_name s w) 0 places).1)

-- s' is the store s, list by list, with the mesh's shape saved at place p
pub record SavedParts (m : Mesh) (s : Store) (w : List ℕ) (p : ℕ) (s' : Store) : Type 0 where
  pub marks : s'.marks ≡ marks_with s w p
  pub names : s'.names ≡ names_with s w p
  pub xs : s'.xs ≡ column_with s.xs p m.xs
  pub ys : s'.ys ≡ column_with s.ys p m.ys
  pub zs : s'.zs ≡ column_with s.zs p m.zs

module _ (m : Mesh) (s : Store) (w : List ℕ) where
  pub save_accepted : save_refusal m s w ≡ 0 → Accepted max_nodes max_panels m × StoreSized (nnode m) s × (place_for s w < places)
  unfolding save_refusal
  save_accepted e =
      let v = mesh-accepted max_nodes max_panels m (save_checks m s w) tt e in
      (v.0, (store_off (nnode m) s).0 v.1.0, omega (arith, for_bounds s w, eqb-false (place_for s w) places v.1.1.0))

  pub drop-accepted : drop_refusal m s w ≡ 0 → Accepted max_nodes max_panels m × StoreSized (nnode m) s × (place_of s w < places)
  unfolding drop_refusal
  drop-accepted e =
      let v = mesh-accepted max_nodes max_panels m (drop_checks m s w) tt e in
      (v.0, (store_off (nnode m) s).0 v.1.0, place-within s w v.1.1.0)

  -- ---- the claims: refused, and done
  save_refused : (r : ℕ) → r ≡ save_refusal m s w → (r ≡ 0 → ⊥) → Saved m s w r s
  save_refused r e n = record { number = e; refused = λ _. refl; done = λ z. absurd (n z) }

  drop-refused : (r : ℕ) → r ≡ drop_refusal m s w → (r ≡ 0 → ⊥) → Dropped m s w r s
  drop-refused r e n = record { number = e; refused = λ _. refl; done = λ z. absurd (n z) }

  -- the number of mesh and store stops the call
  module _ (r : ℕ) (e : r ≡ store_refusal m s) where
    stopped : (ds : List Check) → (r ≡ 0 → ⊥) → r ≡ first (mesh_checks max_nodes max_panels m ++ check output_length (store_differs (nnode m) s) ∷ ds)
    unfolding store_refusal mesh_checks
    stopped ds h = e ∙ sym (first_stopped (mesh_checks max_nodes max_panels m ++ check output_length (store_differs (nnode m) s) ∷ []) ds (λ z. h (e ∙ z)))

    pub save_stopped : (r ≡ 0 → ⊥) → Saved m s w r s
    unfolding save_refusal
    save_stopped h = save_refused r (stopped (check no_place (eqb (place_for s w) places) ∷ []) h) h

    pub drop_stopped : (r ≡ 0 → ⊥) → Dropped m s w r s
    unfolding drop_refusal
    drop_stopped h = drop-refused r (stopped (check unknown_name (lacks_name s w) ∷ []) h) h

    -- or the name's place decides
    module _ (z : r ≡ 0) where
      pub store-accepted : Accepted max_nodes max_panels m × StoreSized (nnode m) s
      unfolding store_refusal
      store-accepted =
          let v = mesh-accepted max_nodes max_panels m (check output_length (store_differs (nnode m) s) ∷ []) tt (sym e ∙ z) in
          (v.0, (store_off (nnode m) s).0 v.1.0)

      passed : (ds : List Check) → first (mesh_checks max_nodes max_panels m ++ check output_length (store_differs (nnode m) s) ∷ ds) ≡ first ds
      unfolding store_refusal mesh_checks
      passed ds =
          let cs = mesh_checks max_nodes max_panels m ++ check output_length (store_differs (nnode m) s) ∷ [] in
          first-passed cs ds ((none-applies cs tt).0 (sym e ∙ z))

      pub save_full : place_for s w ≡ places → Saved m s w no_place s
      unfolding save_refusal first
      save_full q = save_refused no_place (sym (passed (check no_place (eqb (place_for s w) places) ∷ []) ∙ rw (eq-eqb (place_for s w) places q))) (λ n. suc-ne-zero 17 n)

      pub save_placed : (place_for s w ≡ places → ⊥) → save_refusal m s w ≡ 0
      unfolding save_refusal first
      save_placed n = passed (check no_place (eqb (place_for s w) places) ∷ []) ∙ rw (ne_eqb (place_for s w) places n)

      pub drop_unknown : place_of s w ≡ places → Dropped m s w unknown_name s
      unfolding drop_refusal first
      drop_unknown q = drop-refused unknown_name (sym (passed (check unknown_name (lacks_name s w) ∷ []) ∙ rw (eq-eqb (place_of s w) places q))) (λ n. suc-ne-zero 16 n)

      pub drop_known : (place_of s w ≡ places → ⊥) → drop_refusal m s w ≡ 0
      unfolding drop_refusal first
      drop_known n = passed (check unknown_name (lacks_name s w) ∷ []) ∙ rw (ne_eqb (place_of s w) places n)

  pub save_done : (p : ℕ) (s' : Store) → save_refusal m s w ≡ 0 → p ≡ place_for s w → SavedParts m s w p s' → Saved m s w 0 s'
  unfolding saved
  save_done p s' z e k =
      let marks = k.marks ∙ ap (marks_with s w) e in
      let names = k.names ∙ ap (names_with s w) e in
      let x = k.xs ∙ ap (λ (q : ℕ). column_with s.xs q m.xs) e in
      let y = k.ys ∙ ap (λ (q : ℕ). column_with s.ys q m.ys) e in
      let z' = k.zs ∙ ap (λ (q : ℕ). column_with s.zs q m.zs) e in
      record { number = sym z; refused = λ h. absurd (h refl); done = λ _ i. store_of (marks i) (names i) (x i) (y i) (z' i) }

  pub drop-done : (p : ℕ) → drop_refusal m s w ≡ 0 → p ≡ place_of s w → Dropped m s w 0 (store_of (set s.marks p 0) s.names s.xs s.ys s.zs)
  unfolding dropped
  drop-done p z e =
      record {
        number = sym z;
        refused = λ h. absurd (h refl);
        done = λ _ i. store_of (set s.marks (e i) 0) s.names s.xs s.ys s.zs;
      }

  pub saved_parts : SavedParts m s w (place_for s w) (saved m s w)
  unfolding saved
  saved_parts = record { marks = refl; names = refl; xs = refl; ys = refl; zs = refl }

-- the bytes put are a copy
pub put_paste : (n : ℕ) {held : List ℕ} {from : ℕ} {bytes left : List ℕ} {to : ℕ} → length bytes ≡ n → Put held from bytes left to → left ≡ paste held from bytes n
put_paste n {held} {from} {bytes} e p =
    p.leaves
    ∙ sym (append_assoc (take from held) bytes (drop (from + length bytes) held))
    ∙ ap (λ (b : List ℕ). take from held ++ b ++ drop (from + length bytes) held) (sym (take-length bytes))
    ∙ ap (λ (k : ℕ). paste held from bytes k) e
