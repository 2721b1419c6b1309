-- Shared by the definitions: three lent columns that are all to have one length. Definitions only.
use Rattle.std.specs.Prelude.{◌≡◌, Bool, not, ◌||◌, ℕ, eqb}

-- of the lengths a, b, c some is not n
unfoldable pub columns_differ : ℕ → ℕ → ℕ → ℕ → Bool
columns_differ n a b c = not (eqb a n) || (not (eqb b n) || not (eqb c n))

-- each is
pub record ColumnsDue (n a b c : ℕ) : Type 0 where
  pub first : a ≡ n
  pub second : b ≡ n
  pub third : c ≡ n
