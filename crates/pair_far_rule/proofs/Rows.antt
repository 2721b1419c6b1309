-- The far sums over a list d of all distances, the distance of point i of t from point j of s at i * n + j: they are the definition's (`far_rows`), term by term.
use mathlib.Core.Path.{◌≡◌, refl, ap, ◌∙◌}
use mathlib.Core.List.{List}
use Prim.Native.Nat.{ℕ, zero, suc, ◌<◌, ◌≤◌}
use native.Mathlib.Omega.{arith}
use lib.Ieee.{Float}
use Rattle.binary64.specs.Binary64.{◌⊗◌, ◌⊘◌, at}
use Rattle.panel_points.specs.declared.WeightedPoints.{WeightedPoints}
use Rattle.lists.proofs.Sums.{sum_same}
use Rattle.pair_far_rule.specs.Far.{row, forward_by, held_by, far_by, shared, between, held_to, forward, far_shared}
use Rattle.pair_far_rule.proofs.Sums.{shared_same}

module _ (n : ℕ) (s t : WeightedPoints) (d : List Float) (all : (i j : ℕ) → i < n → j < n → row n d i j ≡ between s t i j) where
  held_rows : (k : ℕ) → k ≤ n → held_by n t.weight d k ≡ held_to n s t k
  unfolding held_by held_to
  held_rows zero h = refl
  held_rows (suc k) h =
      ap (λ (r : List Float). shared r (at t.weight k) (row n d k) n) (held_rows k (omega arith))
      ∙ shared_same (held_to n s t k) (at t.weight k) (row n d k) (between s t k) n (λ j l. all k j (omega arith) l)

  forward_rows : (k : ℕ) → k < n → forward_by n s.weight t.weight d k ≡ forward n s t k
  unfolding forward_by forward
  forward_rows k h = ap (λ (x : Float). at t.weight k ⊗ x) (sum_same _ _ n (λ j l. ap (λ (x : Float). at s.weight j ⊘ x) (all k j h l)))

  pub far_rows : far_by n s.weight t.weight d ≡ far_shared n s t
  unfolding far_by far_shared
  far_rows = rw (sum_same (forward_by n s.weight t.weight d) (forward n s t) n forward_rows, held_rows n (omega arith))
