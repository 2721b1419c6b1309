-- The C interface, which the Rust has not: what a call with a row answers and leaves. Definitions only.
use Rattle.std.specs.Prelude.{ℕ, ◌*◌, ◌≡◌, cond, eqb}

-- a row of w numbers by its place: where it begins and how many numbers it has, both 0 on a refusal
pub record RowAt (number w node : ℕ) (r offset count : ℕ) : Type 0 where
  pub refusal : r ≡ number
  pub begins : offset ≡ cond (eqb r 0) (node * w) 0
  pub long : count ≡ cond (eqb r 0) w 0
