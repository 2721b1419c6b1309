-- A Horner sum by a loop over a table of coefficients, for either operation, any table and any number of terms: while the terms from the i-th on are still to be taken, one turn takes the
-- next (`horner_turn`), and where none is left p is the sum. `Pending` is the invariant of both loops.
use mathlib.Core.Path.{◌≡◌, sym, ◌∙◌}
use mathlib.Core.List.{List}
use Prim.Native.Nat.{ℕ, ◌+◌, ◌≤◌, ◌<◌}
use native.Mathlib.Numerals.{add-one}
use native.Mathlib.Nat.{le_antisymm}
use native.Mathlib.Omega.{arith}
use lib.ListN.{drop, length}
use lib.Seq.{drop-cons, drop-length}
use lib.Ieee.{Float, nan}
use Rattle.binary64.specs.Binary64.{at, ◌⊗◌}
use Rattle.elementary.specs.Elementary.{horner}

-- p has taken the first i coefficients of cs. It takes the next one.
horner_turn : (op : Float → Float → Float) (z : Float) (cs : List Float) (i : ℕ) (p : Float) → i < length cs → horner op z (drop i cs) p ≡ horner op z (drop (i + 1) cs) (op (at cs i) (z ⊗ p))
unfolding horner
horner_turn op z cs i p h = rw (add-one, drop-cons cs i nan)

-- ---- the loop: the coefficients from the i-th on lead from p to the sum s
abbrev pub Pending : (Float → Float → Float) → Float → List Float → Float → ℕ → Float → Type 0
Pending op z cs s i p = (i ≤ length cs) × (horner op z (drop i cs) p ≡ s)

pub one_more : (op : Float → Float → Float) (z : Float) (cs : List Float) (s : Float) (i : ℕ) (p : Float) → i < length cs → Pending op z cs s i p → Pending op z cs s (i + 1) (op (at cs i) (z ⊗ p))
one_more op z cs s i p h k = (omega arith, sym (horner_turn op z cs i p h) ∙ k.1)

pub none_left : (op : Float → Float → Float) (z : Float) (cs : List Float) (s : Float) (i : ℕ) (p : Float) → length cs ≤ i → Pending op z cs s i p → p ≡ s
unfolding horner
none_left op z cs s i p h k = let e : i ≡ length cs = le_antisymm k.0 h in let d : horner op z (drop i cs) p ≡ p = rw (e, drop-length) in sym d ∙ k.1
