-- The places that the searches answer. A place below the eighth is `Some`, the eighth is none; the first free place is where the library's `position` stops, and two names
-- of eight bytes are equal as slices where no byte differs.
use mathlib.Core.Path.{◌≡◌, refl, sym, ap, ◌∙◌}
use mathlib.Core.Bool.{Bool, true, false, not, cond}
use mathlib.Core.List.{List, []}
use Prim.Native.Nat.{ℕ, ◌+◌, ◌*◌, ◌<◌, ◌≤◌}
use native.Mathlib.Omega.{arith}
use borrow.Author.Tests.{ltb-true, ltb-false, lt-ltb, eq-eqb}
use lib.Dec.{eqb, ltb}
use lib.ListN.{length, get_or}
use lib.Seq.{ext_get_or}
use lib.Pointwise.{pointwise}
use Rattle.std.proofs.Common.{nat_eq, nat_lt, Option, Some, None}
use Rattle.std.specs.Option.{is_some}
use Rattle.std.specs.List.{position}
use Rattle.std.specs.Cmp.Lexicographic.{same_text, other_text}
use Rattle.std.proofs.lemmas.List.Sums.{position_or_len_is}
use Rattle.lists.proofs.Counting.{none_at, none_below, some_alike}
use Rattle.lists.proofs.First.{next_bounds, next_passes, next_none}
use Rattle.lists.proofs.Stretches.{stretch-long, stretch_at, row_end}
use Rattle.lists.specs.Counting.{some_below}
use Rattle.lists.specs.Stretch.{stretch}
use Rattle.refusal.proofs.Tests.{differ_off}
use Rattle.shape_store.specs.Store.{Store, store_of, places, name_length, is_held, holds_name, place_of, free_place, lacks_name, place_below, same_name}

-- ---- a place below the eighth
pub place_is : (k p : ℕ) → p ≡ k → p < places → Some p ≡ place_below k
place_is k p e l = rw (← e, lt-ltb p places l)

pub place_none : (k : ℕ) → places ≡ k → None ≡ place_below k
place_none k e = rw (← e)

pub place_told : (k p : ℕ) → place_below k ≡ Some p → (k ≡ p) × (p < places)
place_told k p e = go (nat_lt k places) refl e
  where
    go : (b : Bool) → nat_lt k places ≡ b → cond b (Some k) None ≡ Some p → (k ≡ p) × (p < places)
    go true h e = let z : k ≡ p = cc in (z, rw z at (ltb-true k places h))
    go false h e = absurd (cc)

pub none_told : (k : ℕ) → k ≤ places → place_below k ≡ None → k ≡ places
none_told k l e = go (nat_lt k places) refl e
  where
    go : (b : Bool) → nat_lt k places ≡ b → cond b (Some k) None ≡ None → k ≡ places
    go true h e = absurd (cc)
    go false h e = omega (arith, ltb-false k places h, l)

-- ---- no place holds the name
pub name_lacked : (s : Store) (w : List ℕ) → place_below (place_of s w) ≡ None → lacks_name s w ≡ true
name_lacked s w e = eq-eqb _ _ (none_told (place_of s w) (next_bounds (holds_name s w) 0 places).1 e)

pub name-new : (s : Store) (w : List ℕ) (o : Option ℕ) → o ≡ place_below (place_of s w) → is_some o ≡ false → lacks_name s w ≡ true
name-new s w None e h = name_lacked s w (sym e)
name-new s w (Some p) e h = absurd (cc)

-- ---- the first free place
pub free_found : (marks : List ℕ) → length marks ≡ places → position (λ m. nat_eq m 0) marks ≡ place_below (free_place (store_of marks [] [] [] []))
free_found marks long =
    let free : ℕ → Bool = λ p. not (is_held (store_of marks [] [] [] []) p) in
    let q = free_place (store_of marks [] [] [] []) in
    let b = next_bounds free 0 places in
    let before : (k : ℕ) → k < q → nat_eq (get_or marks k 0) 0 ≡ false = λ k l. twice (next_none free 0 places k (omega arith) l) in
    let there : q < length marks → nat_eq (get_or marks q 0) 0 ≡ true = λ l. twice (next_passes free 0 places (omega (arith, l, long))) in
    rw (long, position_or_len_is (λ m. nat_eq m 0) marks q 0 (omega (arith, long, b.1)) before there)
  where
    twice : {a b : Bool} → not (not a) ≡ b → a ≡ b
    twice {a = true} e = e
    twice {a = false} e = e

-- ---- two names
abbrev differs : List ℕ → List ℕ → ℕ → Bool
differs xs ys k = not (eqb (get_or xs k 0) (get_or ys k 0))

alike : (n : ℕ) (xs ys : List ℕ) → length xs ≡ n → length ys ≡ n → (b : Bool) → b ≡ pointwise nat_eq xs ys → b ≡ not (some_below (differs xs ys) n)
alike n xs ys p q true e =
    let s = same_text xs ys e in
    rw (none_below (differs xs ys) n (λ k l. (differ_off (get_or xs k 0) (get_or ys k 0)).1 (rw s)))
alike n xs ys p q false e = go (some_below (differs xs ys) n) refl
  where
    go : (b : Bool) → some_below (differs xs ys) n ≡ b → false ≡ not (some_below (differs xs ys) n)
    go true h = rw h
    go false h =
        absurd (other_text xs ys e (ext_get_or 0 xs ys (p ∙ sym q) (λ k l. (differ_off _ _).0 (none_at (differs xs ys) n k h (omega (arith, l, p))))))

pub same_bytes : (names w : List ℕ) (p : ℕ) (b : Bool)
    → length names ≡ places * name_length → length w ≡ name_length → p < places → b ≡ pointwise nat_eq (stretch names name_length p) w → b ≡ same_name names w p
unfolding same_name
same_bytes names w p b long short l e =
    alike name_length (stretch names name_length p) w (stretch-long names name_length p (omega (arith, long, row_end places name_length p l))) short b e
    ∙ ap not (some_alike (differs (stretch names name_length p) w) (λ k. not (eqb (get_or names (p * name_length + k) 0) (get_or w k 0))) name_length (λ k h. rw (stretch_at names name_length p 0 k h)))
