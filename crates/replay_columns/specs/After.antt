-- The replay: what a call has left of three columns and a matrix, against the stored results, or on a refusal what was there before. Definitions only.
use Rattle.std.specs.Prelude.{◌≡◌, Bool, ◌&&◌, List, ℕ, ◌+◌, length, Float}
use Rattle.replay_words.specs.Words.{same_count}
use Rattle.replay_words.specs.Buffers.{kept}

-- columns after a call are as long as before it
abbrev pub ColumnsAsLong : List Float → List Float → List Float → List Float → List Float → List Float → Type 0
ColumnsAsLong x y z x0 y0 z0 = (length x ≡ length x0) × (length y ≡ length y0) × (length z ≡ length z0)

-- columns and matrix
abbrev pub AsLong : List Float → List Float → List Float → List Float → List Float → List Float → List Float → List Float → Type 0
AsLong x y z cells x0 y0 z0 cells0 = (length x ≡ length x0) × (length y ≡ length y0) × (length z ≡ length z0) × (length cells ≡ length cells0)

-- three columns after a call, one behind the other, and before it
unfoldable pub kept_columns : ℕ → List Float → List Float → List Float → List Float → List Float → List Float → List ℕ → ℕ → Bool
kept_columns r x y z x0 y0 z0 w k = kept r x x0 w k && kept r y y0 w (k + length x) && kept r z z0 w (k + length x + length y)

-- number, count, matrix and columns after a call, and matrix and columns before it
unfoldable pub left_as_due : ℕ → ℕ → List Float → List Float → List Float → List Float → List Float → List Float → List Float → List Float → List ℕ → ℕ → Bool
left_as_due r count x y z cells x0 y0 z0 cells0 w k = same_count r count w k && kept r cells cells0 w (k + 2) && kept_columns r x y z x0 y0 z0 w (k + 2 + length cells)
