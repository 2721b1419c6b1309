-- What the store's calls give their caller: each number by its condition in words, the place of a name and the first free place, and what stands in the store after a save and after a drop.
use mathlib.Core.Path.{◌≡◌, refl, sym, ap, ◌∙◌, subst}
use mathlib.Core.Logic.{◌↔◌}
use mathlib.Core.Bool.{Bool, false, not}
use mathlib.Core.List.{List, [], ◌∷◌}
use Prim.Native.Nat.{ℕ, ◌<◌}
use native.Mathlib.Omega.{arith}
use lib.Dec.{eqb}
use lib.ListN.{length, get_or}
use lib.Seq.{get_or-set_same, get_or-set_other}
use Rattle.refusal.specs.Numbers.{output_length, unknown_name, no_place}
use Rattle.refusal.specs.Checks.{check}
use Rattle.refusal.proofs.Checks.{applies-first}
use Rattle.refusal.proofs.Tests.{on}
use Rattle.lists.proofs.First.{next_none}
use Rattle.mesh.specs.Mesh.{Mesh, nnode, max_nodes, max_panels}
use Rattle.mesh.proofs.Calls.{call_behind, call_done, call_of_mesh, call_area}
use Rattle.lists.proofs.First.{first_is}
use Rattle.shape_store.specs.Store.{Store, places, name_length, is_held, place_of, free_place, place_for, lacks_name, shape_of, saved, dropped, store_differs, save_checks, save_refusal, drop_checks, drop_refusal}
use Rattle.shape_store.specs.Conditions.{StoreSized, HoldsName, OtherName, FirstPlace, FirstFree, PlaceKept, NextPlace, SaveNumbered, DropNumbered}
use Rattle.shape_store.proofs.Places.{store_off, free_on, free_off, free-there, place-holds, place-before, first-placed, name_known, name_unknown, no_place_on, no_place_off}
use Rattle.shape_store.proofs.Calls.{save_accepted, drop-accepted, saved_parts}
use Rattle.shape_store.proofs.Shapes.{kept-holds, kept_back, two-names, names-kept, shape-saved, others_kept, sized_still, place-saved, names-saved}

module _ (m : Mesh) (s : Store) (w : List ℕ) where
  -- ---- the numbers
  -- saving answers each number exactly under its condition, those before it not holding
  pub save_numbered : SaveNumbered m s w (save_refusal m s w)
  unfolding save_refusal
  save_numbered =
      let post = save_checks m s w in
      let size = store_differs (nnode m) s in
      let full = eqb (place_for s w) places in
      let w4 = call_area max_nodes max_panels m [] post Unit (λ h. h, λ h. h) tt tt in
      let w6 = call_behind max_nodes max_panels m [] post Unit (λ h. h, λ h. h) output_length tt tt tt in
      let w18 = call_behind max_nodes max_panels m [] post Unit (λ h. h, λ h. h) no_place tt tt tt in
      let w0 = call_done max_nodes max_panels m [] post Unit (λ h. h, λ h. h) tt tt in
      let own6 = applies-first [] output_length size (check no_place full ∷ []) tt tt tt in
      let own18 = applies-first (check output_length size ∷ []) no_place full [] tt tt tt in
      let off = store_off (nnode m) s in
      let differs = on size (StoreSized (nnode m) s) off in
      record {
        mesh = call_of_mesh max_nodes max_panels m [] post Unit (λ h. h, λ h. h) tt tt;
        is_4 = (λ e. (w4.0 e).1, λ h. w4.1 (tt, h));
        is_6 = (λ e. let v = w6.0 e in (v.1, differs.0 (own6.0 v.2).1), λ h. w6.1 (tt, h.0, own6.1 (tt, differs.1 h.1)));
        is_18 = (
          (λ e. let v = w18.0 e in let u = own18.0 v.2 in (v.1, off.0 u.0.0, (no_place_on s w).0 u.1)),
          λ h. w18.1 (tt, h.0, own18.1 ((off.1 h.1, tt), (no_place_on s w).1 h.2)),
        );
        is_0 = (
          (λ e. let v = w0.0 e in (v.1, off.0 v.2.0, (no_place_off s w).0 v.2.1.0)),
          λ h. w0.1 (tt, h.0, (off.1 h.1, ((no_place_off s w).1 h.2, tt))),
        );
      }

  -- and so does dropping
  pub drop_numbered : DropNumbered m s w (drop_refusal m s w)
  unfolding drop_refusal
  drop_numbered =
      let post = drop_checks m s w in
      let size = store_differs (nnode m) s in
      let w4 = call_area max_nodes max_panels m [] post Unit (λ h. h, λ h. h) tt tt in
      let w6 = call_behind max_nodes max_panels m [] post Unit (λ h. h, λ h. h) output_length tt tt tt in
      let w17 = call_behind max_nodes max_panels m [] post Unit (λ h. h, λ h. h) unknown_name tt tt tt in
      let w0 = call_done max_nodes max_panels m [] post Unit (λ h. h, λ h. h) tt tt in
      let own6 = applies-first [] output_length size (check unknown_name (lacks_name s w) ∷ []) tt tt tt in
      let own17 = applies-first (check output_length size ∷ []) unknown_name (lacks_name s w) [] tt tt tt in
      let off = store_off (nnode m) s in
      let differs = on size (StoreSized (nnode m) s) off in
      record {
        mesh = call_of_mesh max_nodes max_panels m [] post Unit (λ h. h, λ h. h) tt tt;
        is_4 = (λ e. (w4.0 e).1, λ h. w4.1 (tt, h));
        is_6 = (λ e. let v = w6.0 e in (v.1, differs.0 (own6.0 v.2).1), λ h. w6.1 (tt, h.0, own6.1 (tt, differs.1 h.1)));
        is_17 = (
          (λ e. let v = w17.0 e in let u = own17.0 v.2 in (v.1, off.0 u.0.0, (name_unknown s w).0 u.1)),
          λ h. w17.1 (tt, h.0, own17.1 ((off.1 h.1, tt), (name_unknown s w).1 h.2)),
        );
        is_0 = (
          (λ e. let v = w0.0 e in (v.1, off.0 v.2.0, (name_known s w).0 v.2.1.0)),
          λ h. w0.1 (tt, h.0, (off.1 h.1, ((name_known s w).1 h.2, tt))),
        );
      }

  -- ---- a save that is done, of a name of eight bytes
  module _ (done : save_refusal m s w ≡ 0) (long : length w ≡ name_length) where
    -- the name is found at the place where it was saved, the shape there is the mesh's own, and the store has its size still
    pub saved_found : (place_of (saved m s w) w ≡ place_for s w) × (shape_of m (saved m s w) (place_of (saved m s w) w) ≡ m) × StoreSized (nnode m) (saved m s w)
    saved_found =
        let k = save_accepted m s w done in
        let s' = saved m s w in
        let p = place_for s w in
        let e = place-saved m s w p s' k.0 k.1 k.2 long (saved_parts m s w) refl in (
          e,
          ap (shape_of m s') e ∙ shape-saved m s w p s' k.0 k.1 k.2 long (saved_parts m s w),
          sized_still m s w p s' k.0 k.1 k.2 long (saved_parts m s w),
        )

    -- every other place keeps its mark, its name and its coordinates
    pub saved_others : (q : ℕ) → (q ≡ place_for s w → ⊥) → PlaceKept (nnode m) s (saved m s w) q
    saved_others q h = let k = save_accepted m s w done in others_kept m s w (place_for s w) (saved m s w) k.0 k.1 k.2 long (saved_parts m s w) q h

    -- every other name that is known is found where it was, with its shape
    pub saved-names : (v : List ℕ) → OtherName v w → lacks_name s v ≡ false
        → (place_of (saved m s w) v ≡ place_of s v) × (shape_of m (saved m s w) (place_of (saved m s w) v) ≡ shape_of m s (place_of s v))
    saved-names v o = let k = save_accepted m s w done in names-saved m s w (place_for s w) (saved m s w) k.0 k.1 k.2 long (saved_parts m s w) v o refl

module _ (s : Store) (w : List ℕ) where
  -- ---- places
  -- the place of a name is the first that holds it
  pub place-first : (p : ℕ) → ((place_of s w ≡ p) × (p < places)) ↔ FirstPlace s w p
  place-first p = (
    (λ h. subst (FirstPlace s w) h.0 (record { holds = place-holds s w (omega (arith, h.0, h.1)); before = place-before s w })),
    λ f. (first-placed s w p f, f.holds.within),
  )

  -- the first free place is the first with the mark 0
  pub free-first : (p : ℕ) → ((free_place s ≡ p) × (p < places)) ↔ FirstFree s p
  free-first p =
      let t : ℕ → Bool = λ q. not (is_held s q) in (
        (λ h. subst (FirstFree s) h.0 (found (omega (arith, h.0, h.1)))),
        λ f. (sym (first_is t places p f.within (λ k l. (free_off s k).1 (f.before k l)) ((free_on s p).1 f.free)), f.within),
      )
    where
      found : free_place s < places → FirstFree s (free_place s)
      found l =
          let t : ℕ → Bool = λ q. not (is_held s q) in
          record {
            within = l;
            free = free-there s l;
            before = λ q k. (free_off s q).0 (next_none t 0 places q (omega arith) k);
          }

  -- ---- a drop
  -- every other place keeps its mark; names and coordinates are as they were at every place
  pub dropped_others : (n q : ℕ) → (q ≡ place_of s w → ⊥) → PlaceKept n s (dropped s w) q
  unfolding dropped
  dropped_others n q h = record { mark = get_or-set_other s.marks (place_of s w) q 0 0 h; name = refl; xs = refl; ys = refl; zs = refl }

module _ (m : Mesh) (s : Store) (w : List ℕ) (done : drop_refusal m s w ≡ 0) where
  -- a drop that is done frees the name's place
  pub dropped_freed : get_or (dropped s w).marks (place_of s w) 0 ≡ 0
  unfolding dropped
  dropped_freed =
      let k = drop-accepted m s w done in
      get_or-set_same s.marks (place_of s w) 0 0 (omega (arith, k.1.marks-long, k.2))

  elsewhere : (q : ℕ) → HoldsName (dropped s w) w q → q ≡ place_of s w → ⊥
  elsewhere q h e = h.held (ap (λ (k : ℕ). get_or (dropped s w).marks k 0) e ∙ dropped_freed)

  -- a place that holds the name after the drop held it before, behind the place that was freed
  held-behind : (q : ℕ) → HoldsName (dropped s w) w q → HoldsName s w q × (place_of s w < q)
  held-behind q h =
      let n = elsewhere q h in
      let k = kept-holds (dropped_others s w 0 q n) h in
      let before : q < place_of s w → ⊥ = λ l. place-before s w q l k in
      (k, omega (arith, n, before))

  held_still : (q : ℕ) → HoldsName s w q → place_of s w < q → HoldsName (dropped s w) w q
  held_still q h l = kept-holds (kept_back (dropped_others s w 0 q (λ e. omega (arith, e, l)))) h

  -- and the next place of that name, if there is one, counts then
  pub dropped_next : (q : ℕ) → FirstPlace (dropped s w) w q ↔ NextPlace s w (place_of s w) q
  dropped_next q = (
    (λ f.
        let k = held-behind q f.holds in
        record { behind = k.1; holds = k.0; between = λ j a l h. f.before j l (held_still j h a) }),
    λ g.
        record {
          holds = held_still q g.holds g.behind;
          before = λ j l h. let k = held-behind j h in g.between j k.1 l k.0;
        },
  )

  -- every other name that is known is found where it was, with its shape
  pub dropped-names : (v : List ℕ) → OtherName v w → lacks_name s v ≡ false
      → (place_of (dropped s w) v ≡ place_of s v) × (shape_of m (dropped s w) (place_of (dropped s w) v) ≡ shape_of m s (place_of s v))
  dropped-names v o =
      let k = drop-accepted m s w done in
      names-kept m s (dropped s w) (place_of s w) v (dropped_others s w (nnode m)) (λ h. two-names o h (place-holds s w k.2)) (λ h. h.held dropped_freed)
