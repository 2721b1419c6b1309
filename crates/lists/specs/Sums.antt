-- Shared by the definitions: a running sum, each addition rounded. Definitions only.
use Rattle.std.specs.Prelude.{ℕ, zero, suc, Float}
use Rattle.binary64.specs.Binary64.{◌⊕◌, plus_zero}

-- x, and g of each index below k added to it in order
unfoldable pub running_sum : Float → (ℕ → Float) → ℕ → Float
running_sum x g zero = x
running_sum x g (suc k) = running_sum x g k ⊕ g k

-- from +0
abbrev pub sum_to : (ℕ → Float) → ℕ → Float
sum_to g k = running_sum plus_zero g k
