-- A loop that writes two numbers a turn, the second o places after the first: after k turns the first k of both are in place.
use mathlib.Core.Path.{◌≡◌, ◌∙◌}
use mathlib.Core.List.{List}
use Prim.Native.Nat.{ℕ, ◌+◌, ◌<◌}
use native.Mathlib.Omega.{arith}
use lib.ListN.{length, set, length-set}
use lib.Seq.{get_or-set_same, get_or-set_other}
use lib.Ieee.{Float, nan}
use Rattle.binary64.specs.Binary64.{at}
use Rattle.lists.proofs.Indices.{one_more}

pub two_turn : {g h : ℕ → Float} (n : ℕ) (out : List Float) (k o : ℕ) (a b : Float) → length out ≡ n → k < o → k + o < n → ((j : ℕ) → j < k → (at out j ≡ g j) × (at out (j + o) ≡ h j)) → a ≡ g k → b ≡ h k
    → (i : ℕ) → i < k + 1 → (at (set (set out k a) (k + o) b) i ≡ g i) × (at (set (set out k a) (k + o) b) (i + o) ≡ h i)
two_turn {g} {h} n out k o a b z m l all d e =
    one_more (λ (i : ℕ). (at (set (set out k a) (k + o) b) i ≡ g i) × (at (set (set out k a) (k + o) b) (i + o) ≡ h i)) k
    (λ i q. (kept i (λ u. omega arith) (λ u. omega arith) ∙ (all i q).0, kept (i + o) (λ u. omega arith) (λ u. omega arith) ∙ (all i q).1))
    (get_or-set_other (set out k a) (k + o) k b nan (λ u. omega arith) ∙ get_or-set_same out k a nan (omega arith) ∙ d, get_or-set_same (set out k a) (k + o) b nan (rw (length-set out k a) (omega arith)) ∙ e)
  where
    kept : (j : ℕ) → (j ≡ k → ⊥) → (j ≡ k + o → ⊥) → at (set (set out k a) (k + o) b) j ≡ at out j
    kept j p q = get_or-set_other (set out k a) (k + o) j b nan q ∙ get_or-set_other out k j a nan p
