-- What the seven places hold after the loops: `held_to` at place j the sum over the points of t, in their order, of weight over distance.
use mathlib.Core.Path.{◌≡◌, refl, ap, ◌∙◌}
use mathlib.Core.Logic.{inl, inr}
use mathlib.Core.List.{List}
use Prim.Native.Nat.{ℕ, zero, suc, ◌<◌, ◌≤◌}
use native.Mathlib.Nat.{eq-or-lt_of_le, le_of_suc-le-suc}
use native.Mathlib.Omega.{arith}
use lib.ListN.{length, length-set, get_or-replicate}
use lib.Seq.{get_or-set_same, get_or-set_other}
use lib.Ieee.{Float, nan}
use Rattle.binary64.specs.Binary64.{◌⊕◌, ◌⊘◌, at, plus_zero}
use Rattle.lists.specs.Sums.{running_sum, sum_to}
use Rattle.panel_points.specs.declared.WeightedPoints.{WeightedPoints}
use Rattle.pair_far_rule.specs.Far.{shared, between, held_to}

-- ---- a row's shares
shared-length : (held : List Float) (v : Float) (d : ℕ → Float) (k : ℕ) → length (shared held v d k) ≡ length held
unfolding shared
shared-length held v d zero = refl
shared-length held v d (suc k) = length-set (shared held v d k) k _ ∙ shared-length held v d k

shared_later : (held : List Float) (v : Float) (d : ℕ → Float) (k j : ℕ) → k ≤ j → at (shared held v d k) j ≡ at held j
unfolding shared
shared_later held v d zero j h = refl
shared_later held v d (suc k) j h = get_or-set_other (shared held v d k) k j _ nan (λ e. omega arith) ∙ shared_later held v d k j (omega arith)

shared_at : (held : List Float) (v : Float) (d : ℕ → Float) (k j : ℕ) → j < k → k ≤ length held → at (shared held v d k) j ≡ at held j ⊕ v ⊘ d j
unfolding shared
shared_at held v d zero j h m = absurd (omega arith)
shared_at held v d (suc k) j h m =
    let long = shared-length held v d k in
    elim (eq-or-lt_of_le (le_of_suc-le-suc h)) [
      | inl e ↦ rw e (get_or-set_same (shared held v d k) k _ nan (omega arith) ∙ ap (λ (x : Float). x ⊕ v ⊘ d k) (shared_later held v d k k (omega arith)))
      | inr l ↦ get_or-set_other (shared held v d k) k j _ nan (λ e. omega arith) ∙ shared_at held v d k j l (omega arith)
    ]

pub shared_same : (held : List Float) (v : Float) (d e : ℕ → Float) (k : ℕ) → ((j : ℕ) → j < k → d j ≡ e j) → shared held v d k ≡ shared held v e k
unfolding shared
shared_same held v d e zero all = refl
shared_same held v d e (suc k) all = rw (shared_same held v d e k (λ j l. all j (omega arith)), all k (omega arith))

-- ---- all rows' shares
held-length : (n : ℕ) (s t : WeightedPoints) (k : ℕ) → length (held_to n s t k) ≡ 7
unfolding held_to
held-length n s t zero = refl
held-length n s t (suc k) = shared-length (held_to n s t k) (at t.weight k) (between s t k) n ∙ held-length n s t k

zero_at : (n : ℕ) (s t : WeightedPoints) (j : ℕ) → j < 7 → at (held_to n s t zero) j ≡ plus_zero
unfolding held_to
zero_at n s t j h = get_or-replicate 7 j plus_zero nan h

pub held_at : (n : ℕ) (s t : WeightedPoints) (k j : ℕ) → j < n → n ≤ 7 → at (held_to n s t k) j ≡ sum_to (λ (i : ℕ). at t.weight i ⊘ between s t i j) k
unfolding running_sum held_to
held_at n s t zero j h m = zero_at n s t j (omega arith)
held_at n s t (suc k) j h m =
    let long = held-length n s t k in
    shared_at (held_to n s t k) (at t.weight k) (between s t k) n j h (omega arith) ∙ ap (λ (x : Float). x ⊕ at t.weight k ⊘ between s t k j) (held_at n s t k j h m)
