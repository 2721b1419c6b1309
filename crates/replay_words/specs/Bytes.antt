-- The replay: bytes in a stored case: where they end, and their comparison. Definitions only.
use Rattle.std.specs.Prelude.{Bool, cond, List, ℕ, ◌+◌, ◌/◌, eqb, bytes_eq}

-- the place behind n bytes that begin at place 1, eight to a word
unfoldable pub bytes_end : ℕ → ℕ
bytes_end n = 1 + (n + 7) / 8

-- as many, and each the same
abbrev pub same_bytes : List ℕ → List ℕ → Bool
same_bytes a b = bytes_eq a b

-- bytes that a call may change: the stored results, or on a refusal what they were before
unfoldable pub kept_bytes : ℕ → List ℕ → List ℕ → List ℕ → Bool
kept_bytes r a before stored = cond (eqb r 0) (same_bytes a stored) (same_bytes a before)
