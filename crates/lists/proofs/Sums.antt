-- A running sum with one term more, and two whose terms are the same.
use mathlib.Core.Path.{◌≡◌, refl}
use Prim.Native.Nat.{ℕ, zero, suc, ◌+◌, ◌<◌}
use native.Mathlib.Numerals.{add-one}
use native.Mathlib.Omega.{arith}
use lib.Ieee.{Float}
use Rattle.binary64.specs.Binary64.{◌⊕◌}
use Rattle.lists.specs.Sums.{running_sum, sum_to}

pub sum_more : (x : Float) (g : ℕ → Float) (k : ℕ) → running_sum x g (k + 1) ≡ running_sum x g k ⊕ g k
unfolding running_sum
sum_more x g k = rw add-one

pub sum_same : (g h : ℕ → Float) (k : ℕ) → ((j : ℕ) → j < k → g j ≡ h j) → sum_to g k ≡ sum_to h k
unfolding running_sum
sum_same g h zero all = refl
sum_same g h (suc k) all = rw (sum_same g h k (λ j l. all j (omega arith)), all k (omega arith))
