-- Where a column ends, one column further.
use mathlib.Core.Path.{◌≡◌}
use mathlib.Core.List.{List}
use Prim.Native.Nat.{ℕ, ◌+◌}
use native.Mathlib.Numerals.{add-one}
use Rattle.replay_words.specs.Words.{column_end}
use Rattle.replay_columns.specs.Columns.{column_at}

pub column_next : (w : List ℕ) (k i : ℕ) → column_at w k (i + 1) ≡ column_end w (column_at w k i)
unfolding column_at
column_next w k i = rw add-one
