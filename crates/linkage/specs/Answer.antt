-- Shared by the definitions: an answer with a number and a value: the value is zero on a refusal. Definitions only.
use Rattle.std.specs.Prelude.{◌≡◌, cond, ℕ, eqb, Float}
use Rattle.binary64.specs.Binary64.{plus_zero}

-- what is due, or on a refusal +0
unfoldable pub value_after : ℕ → Float → Float
value_after r due = cond (eqb r 0) due plus_zero

pub record Answered (number : ℕ) (due : Float) (r : ℕ) (v : Float) : Type 0 where
  pub refusal : r ≡ number
  pub value : v ≡ value_after r due
