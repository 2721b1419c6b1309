-- Seven places filled from the front: what stands there, one place further, and that a list of these seven numbers is that list.
use mathlib.Core.Path.{◌≡◌, refl, sym, ◌∙◌}
use mathlib.Core.Logic.{inl, inr}
use mathlib.Core.List.{List}
use Prim.Native.Nat.{ℕ, zero, suc, ◌+◌, ◌<◌, ◌≤◌}
use native.Mathlib.Nat.{eq-or-lt_of_le, le_of_suc-le-suc}
use native.Mathlib.Numerals.{add-one}
use native.Mathlib.Omega.{arith}
use lib.ListN.{length, set, length-set}
use lib.Seq.{get_or-set_same, get_or-set_other}
use lib.Ieee.{Float, nan}
use Rattle.std.proofs.lemmas.List.{ext_get_or}
use Rattle.lists.specs.Filling.{Each}
use Rattle.binary64.specs.Binary64.{at}
use Rattle.panel_points.specs.Points.{seven}

seven-length : (g : ℕ → Float) (k : ℕ) → length (seven g k) ≡ 7
unfolding seven
seven-length g zero = refl
seven-length g (suc k) = length-set (seven g k) k (g k) ∙ seven-length g k

pub seven_at : (g : ℕ → Float) (k j : ℕ) → j < k → k ≤ 7 → at (seven g k) j ≡ g j
unfolding seven
seven_at g zero j h m = absurd (omega arith)
seven_at g (suc k) j h m =
    let long = seven-length g k in
    elim (eq-or-lt_of_le (le_of_suc-le-suc h)) [
      | inl e ↦ rw e (get_or-set_same (seven g k) k (g k) nan (omega arith))
      | inr l ↦ get_or-set_other (seven g k) k j (g k) nan (λ e. omega arith) ∙ seven_at g k j l (omega arith)
    ]

pub seven_more : (g : ℕ → Float) (k : ℕ) → seven g (k + 1) ≡ set (seven g k) k (g k)
unfolding seven
seven_more g k = rw add-one

pub seven_is : (g : ℕ → Float) (r : List Float) → length r ≡ 7 → Each 7 g r → r ≡ seven g 7
seven_is g r long each = ext_get_or nan r (seven g 7) (long ∙ sym (seven-length g 7))
    (λ i h. each i (omega (arith, long)) ∙ sym (seven_at g 7 i (omega (arith, long)) (omega arith)))
