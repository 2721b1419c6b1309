-- The store's tests in words: its size, which places hold a name, and the first of them.
use mathlib.Core.Path.{◌≡◌, refl, sym, ap, ◌∙◌}
use mathlib.Core.Logic.{◌↔◌}
use mathlib.Core.Bool.{Bool, true, false, not, ◌&&◌, cond, true≢false}
use mathlib.Core.List.{List}
use Prim.Native.Nat.{ℕ, ◌+◌, ◌*◌, ◌<◌}
use native.Mathlib.Omega.{arith}
use borrow.Author.Tests.{eqb-true, eqb-false, eq-eqb, ne_eqb, not-true, not-false}
use lib.Dec.{eqb}
use lib.ListN.{length, get_or}
use Rattle.refusal.proofs.Tests.{on, or_off, differ_off}
use Rattle.lists.proofs.Columns.{columns_off}
use Rattle.lists.proofs.Counting.{none_at, none_below}
use Rattle.lists.proofs.First.{next_bounds, next_passes, next_none, first_is, none_is}
use Rattle.shape_store.specs.Store.{Store, places, name_length, is_held, same_name, holds_name, place_of, free_place, lacks_name, place_for, store_differs}
use Rattle.shape_store.specs.Conditions.{StoreSized, Held, HoldsName, UnknownName, KnownName, NoPlace, FirstPlace}

-- ---- 6
pub store_off : (n : ℕ) (s : Store) → (store_differs n s ≡ false) ↔ StoreSized n s
unfolding store_differs
store_off n s =
    let m = differ_off (length s.marks) places in
    let b = differ_off (length s.names) (places * name_length) in
    let c = columns_off (places * n) (length s.xs) (length s.ys) (length s.zs) in (
      (λ e.
          let o = or_off _ _ e in
          let q = or_off _ _ o.1 in
          record { marks-long = m.0 o.0; names-long = b.0 q.0; columns = c.0 q.1 }),
      λ h. rw (m.1 h.marks-long, b.1 h.names-long, c.1 h.columns),
    )

-- ---- a place that holds a name
and_on : (a b : Bool) → (a && b) ≡ true → (a ≡ true) × (b ≡ true)
and_on true b e = (refl, e)
and_on false b e = absurd (true≢false (sym e))

held_on : (s : Store) (p : ℕ) → (is_held s p ≡ true) ↔ Held s p
held_on s p = (λ e. eqb-false (get_or s.marks p 0) 0 (not-true _ e), λ h. rw (ne_eqb (get_or s.marks p 0) 0 h))

pub free_on : (s : Store) (p : ℕ) → (not (is_held s p) ≡ true) ↔ (get_or s.marks p 0 ≡ 0)
free_on s p = (λ e. (differ_off _ _).0 (not-true _ e), λ h. rw (eq-eqb (get_or s.marks p 0) 0 h))

pub free_off : (s : Store) (p : ℕ) → (not (is_held s p) ≡ false) ↔ Held s p
free_off s p = (λ e. (held_on s p).0 (not-false _ e), λ h. rw ((held_on s p).1 h))

-- the free place that is found is free
pub free-there : (s : Store) → free_place s < places → get_or s.marks (free_place s) 0 ≡ 0
free-there s l = (free_on s (free_place s)).0 (next_passes (λ p. not (is_held s p)) 0 places (omega (arith, l)))

module _ (s : Store) (w : List ℕ) where
  abbrev differs : ℕ → ℕ → Bool
  differs p k = not (eqb (get_or s.names (p * name_length + k) 0) (get_or w k 0))

  same_on : (p : ℕ) → (same_name s.names w p ≡ true) ↔ ((k : ℕ) → k < name_length → get_or s.names (p * name_length + k) 0 ≡ get_or w k 0)
  unfolding same_name
  same_on p = (
    (λ e k l. (differ_off _ _).0 (none_at (differs p) name_length k (not-true _ e) l)),
    λ h. rw (none_below (differs p) name_length (λ k l. (differ_off _ _).1 (h k l))),
  )

  pub holds_on : (p : ℕ) → p < places → (holds_name s w p ≡ true) ↔ HoldsName s w p
  holds_on p l = (
    (λ e. let a = and_on _ _ e in record { within = l; held = (held_on s p).0 a.0; name = (same_on p).0 a.1 }),
    λ h. rw ((held_on s p).1 h.held, (same_on p).1 h.name),
  )

  -- ---- 17
  pub place-within : lacks_name s w ≡ false → place_of s w < places
  place-within e = omega (arith, eqb-false (place_of s w) places e, (next_bounds (holds_name s w) 0 places).1)

  -- the place that is found holds the name
  pub place-holds : place_of s w < places → HoldsName s w (place_of s w)
  place-holds l = (holds_on (place_of s w) l).0 (next_passes (holds_name s w) 0 places (omega (arith, l)))

  -- none before it does
  pub place-before : (q : ℕ) → q < place_of s w → HoldsName s w q → ⊥
  place-before q l h = true≢false (sym ((holds_on q h.within).1 h) ∙ next_none (holds_name s w) 0 places q (omega arith) l)

  -- the first that holds the name is the one that is found
  pub first-placed : (p : ℕ) → FirstPlace s w p → place_of s w ≡ p
  first-placed p f =
      let l = f.holds.within in
      sym (first_is (holds_name s w) places p l (λ k h. off k (omega (arith, h, l)) (f.before k h) (holds_name s w k) refl) ((holds_on p l).1 f.holds))
    where
      off : (k : ℕ) → k < places → (HoldsName s w k → ⊥) → (b : Bool) → holds_name s w k ≡ b → holds_name s w k ≡ false
      off k l n true e = absurd (n ((holds_on k l).0 e))
      off k l n false e = e

  pub name_known : (lacks_name s w ≡ false) ↔ KnownName s w
  name_known = (
    (λ e. (place_of s w, place-holds (place-within e))),
    λ h. ne_eqb (place_of s w) places (λ e. place-before h.0 (omega (arith, e, h.1.within)) h.1),
  )

  pub name_unknown : (lacks_name s w ≡ true) ↔ UnknownName s w
  name_unknown =
      let k = on (lacks_name s w) (KnownName s w) name_known in
      (λ e p h. k.0 e (p, h), λ h. k.1 (λ q. h q.0 q.1))

  -- ---- 18
  pub no_place_on : (eqb (place_for s w) places ≡ true) ↔ NoPlace s w
  no_place_on = (
    (λ e. go (lacks_name s w) refl (eqb-true _ _ e)),
    λ h.
        let none = none_is (λ p. not (is_held s p)) places (λ p l. (free_off s p).1 (h.full p l)) in
        eq-eqb _ _ (ap (λ (b : Bool). cond b (free_place s) (place_of s w)) (name_unknown.1 h.new) ∙ sym none),
  )
    where
      go : (b : Bool) → lacks_name s w ≡ b → cond (lacks_name s w) (free_place s) (place_of s w) ≡ places → NoPlace s w
      go true e h =
          let f : free_place s ≡ places = ap (λ (b : Bool). cond b (free_place s) (place_of s w)) (sym e) ∙ h in
          record { new = name_unknown.0 e; full = λ p l. (free_off s p).0 (next_none (λ q. not (is_held s q)) 0 places p (omega arith) (omega (arith, l, f))) }
      go false e h =
          let f : place_of s w ≡ places = ap (λ (b : Bool). cond b (free_place s) (place_of s w)) (sym e) ∙ h in
          absurd (omega (arith, place-within e, f))

  pub no_place_off : (eqb (place_for s w) places ≡ false) ↔ (NoPlace s w → ⊥)
  no_place_off = (λ e h. true≢false (sym (no_place_on.1 h) ∙ e), λ n. ne_eqb (place_for s w) places (λ e. n (no_place_on.0 (eq-eqb (place_for s w) places e))))
