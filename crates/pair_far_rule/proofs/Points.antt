-- The sums over the points of two panels, one point further.
use mathlib.Core.Path.{◌≡◌}
use Prim.Native.Nat.{ℕ, ◌+◌}
use mathlib.Core.List.{List}
use native.Mathlib.Numerals.{add-one}
use lib.ListN.{set}
use lib.Ieee.{Float}
use Rattle.binary64.specs.Binary64.{◌⊕◌, ◌⊘◌, at}
use Rattle.panel_points.specs.declared.WeightedPoints.{WeightedPoints}
use Rattle.pair_far_rule.specs.Far.{shared, between, held_to, row, held_by}

pub shared_more : (held : List Float) (v : Float) (d : ℕ → Float) (k : ℕ) → shared held v d (k + 1) ≡ set (shared held v d k) k (at (shared held v d k) k ⊕ v ⊘ d k)
unfolding shared
shared_more held v d k = rw add-one

pub held_more : (n : ℕ) (s t : WeightedPoints) (k : ℕ) → held_to n s t (k + 1) ≡ shared (held_to n s t k) (at t.weight k) (between s t k) n
unfolding held_to
held_more n s t k = rw add-one

pub held_next : (n : ℕ) (v d : List Float) (k : ℕ) → held_by n v d (k + 1) ≡ shared (held_by n v d k) (at v k) (row n d k) n
unfolding held_by
held_next n v d k = rw add-one
