-- An index of an array, or its place in bytes, is a small number, and a small number fits a machine word: what the checker asks at each read and write.
-- What holds of every index below k and of k itself holds below k + 1: the step of a loop that keeps a fact of each index.
use mathlib.Core.Path.{◌≡◌, sym, subst}
use mathlib.Core.Logic.{◌⊎◌, inl, inr}
use Prim.Native.Nat.{ℕ, ◌+◌, ◌≤◌, ◌<◌}
use native.Mathlib.Nat.{eq-or-lt_of_le}
use native.Mathlib.Omega.{arith}
use mir.Syntax.{w64}
use mir.Val.{Fits}
use borrow.Author.Rules.{Fits-under}

pub index_fits : {n : ℕ} → n < 32768 → Fits w64 n
index_fits h = Fits-under w64 _ 32768 h tt

pub one_more : (P : ℕ → Type 0) (k : ℕ) → ((j : ℕ) → j < k → P j) → P k → (j : ℕ) → j < k + 1 → P j
one_more P k before own j h = go (eq-or-lt_of_le (up_to j k h))
  where
    up_to : (j k : ℕ) → j < k + 1 → j ≤ k
    up_to j k h = omega arith

    go : (j ≡ k) ⊎ (j < k) → P j
    go (inl e) = subst P (sym e) own
    go (inr l) = before j l
