-- The worst gap, one row further; the worse of two gaps is the greater.
use mathlib.Core.Path.{◌≡◌, ◌∙◌}
use mathlib.Core.List.{List, []}
use Prim.Native.Nat.{ℕ, ◌+◌}
use native.Mathlib.Numerals.{add-one}
use lib.ListN.{get_or}
use lib.Ieee.{Float}
use Rattle.std.proofs.Common.{arith, max}
use Rattle.std.proofs.lemmas.Bool.Decides.{nat_tests}
use Rattle.worked_examples.specs.Gaps.{worse, row_gap, worst}

worst_more : (f : Float → Float → Float) (table : List (List Float)) (k : ℕ) → worst f table (k + 1) ≡ worse (worst f table k) (row_gap f (get_or table k []))
unfolding worst
worst_more f table k = rw add-one

worse_is_max : (a b : ℕ) → max b a ≡ worse a b
unfolding worse
worse_is_max a b = grind (arith, nat_tests)

pub worst_turned : (f : Float → Float → Float) (table : List (List Float)) (k : ℕ) {w gap r : ℕ} → w ≡ worst f table k → gap ≡ row_gap f (get_or table k []) → r ≡ max gap w → r ≡ worst f table (k + 1)
worst_turned f table k {w} {gap} {r} h g m = rw (worst_more, ← h, ← g) (m ∙ worse_is_max w gap)
