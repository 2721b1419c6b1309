-- Shared by the definitions: a row of a matrix, a place of a store: a stretch of a list that has them one behind the other. Definitions only.
use Rattle.std.specs.Prelude.{List, ℕ, ◌*◌, take, drop}

-- w elements from i · w on
abbrev pub stretch : {A : Type 0} → List A → ℕ → ℕ → List A
stretch m w i = take w (drop (i * w) m)
