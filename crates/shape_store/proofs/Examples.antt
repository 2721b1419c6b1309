-- Stores written out, with any coordinates: which mark is held, what a stale name is worth, and which of two places of one name counts, before and after a drop.
use mathlib.Core.Path.{◌≡◌, refl}
use mathlib.Core.List.{List, [], ◌∷◌, ◌++◌}
use Prim.Native.Nat.{ℕ}
use lib.Ieee.{Float}
use Rattle.lists.specs.Counting.{some_below, next_from}
use Rattle.shape_store.specs.Store.{Store, store_of, same_name, place_of, place_for, dropped}

-- "as cast" and "bent", filled up with zero bytes
abbrev cast : List ℕ
cast = 97 ∷ 115 ∷ 32 ∷ 99 ∷ 97 ∷ 115 ∷ 116 ∷ 0 ∷ []

abbrev bent : List ℕ
bent = 98 ∷ 101 ∷ 110 ∷ 116 ∷ 0 ∷ 0 ∷ 0 ∷ 0 ∷ []

module _ (x y z : List Float) where
  -- every place's bytes are those of "as cast"
  abbrev marked : List ℕ → Store
  marked marks = store_of marks (cast ++ cast ++ cast ++ cast ++ cast ++ cast ++ cast ++ cast) x y z

  -- a mark of 7 is held as a mark of 1 is
  pub marked-seven : place_of (marked (0 ∷ 0 ∷ 7 ∷ 0 ∷ 0 ∷ 0 ∷ 0 ∷ 0 ∷ [])) cast ≡ 2
  unfolding same_name some_below next_from
  marked-seven = refl

  -- no free place holds a name, whatever its bytes are
  pub stale : place_of (marked (0 ∷ 0 ∷ 0 ∷ 0 ∷ 0 ∷ 0 ∷ 0 ∷ 0 ∷ [])) cast ≡ 8
  unfolding same_name some_below next_from
  stale = refl

  -- of two places of one name the first counts; it is dropped, and the second does
  pub twice : place_of (marked (0 ∷ 1 ∷ 0 ∷ 5 ∷ 0 ∷ 0 ∷ 0 ∷ 0 ∷ [])) cast ≡ 1
  unfolding same_name some_below next_from
  twice = refl

  pub twice_dropped : place_of (dropped (marked (0 ∷ 1 ∷ 0 ∷ 5 ∷ 0 ∷ 0 ∷ 0 ∷ 0 ∷ [])) cast) cast ≡ 3
  unfolding dropped same_name some_below next_from
  twice_dropped = refl

  -- a new name takes the first free place; there is none if all eight are held, but for a held name there is
  pub new-name : place_for (marked (1 ∷ 255 ∷ 0 ∷ 1 ∷ 0 ∷ 1 ∷ 1 ∷ 1 ∷ [])) bent ≡ 2
  unfolding same_name some_below next_from
  new-name = refl

  pub full-new : place_for (marked (1 ∷ 1 ∷ 1 ∷ 1 ∷ 1 ∷ 1 ∷ 1 ∷ 1 ∷ [])) bent ≡ 8
  unfolding same_name some_below next_from
  full-new = refl

  pub full-held : place_for (marked (1 ∷ 1 ∷ 1 ∷ 1 ∷ 1 ∷ 1 ∷ 1 ∷ 1 ∷ [])) cast ≡ 0
  unfolding same_name some_below next_from
  full-held = refl
