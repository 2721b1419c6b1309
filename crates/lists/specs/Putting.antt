-- Shared by the definitions: elements put into a buffer from an index on. Definitions only.
use Rattle.std.specs.Prelude.{◌≡◌, List, ◌++◌, ℕ, ◌+◌, length, take, drop}

-- what the buffer holds then, and the index behind them
pub record Put {A : Type 0} (held : List A) (from : ℕ) (items left : List A) (to : ℕ) : Type 0 where
  pub behind : to ≡ from + length items
  pub leaves : left ≡ take from held ++ (items ++ drop (from + length items) held)
