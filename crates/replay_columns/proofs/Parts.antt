-- Where a part of a store ends, one part further.
use mathlib.Core.Path.{◌≡◌}
use mathlib.Core.List.{List}
use Prim.Native.Nat.{ℕ, ◌+◌}
use native.Mathlib.Numerals.{add-one}
use Rattle.replay_columns.specs.Store.{part_at, part_end}

pub part_next : (w : List ℕ) (q i : ℕ) → part_at w q (i + 1) ≡ part_end w (part_at w q i) i
unfolding part_at
part_next w q i = rw add-one
