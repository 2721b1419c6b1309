-- When the calls answer 12 and when 0, without the chain of tests: 12 exactly at a number outside 1 to 5 or, for an entry, a corner above 2. A call answers one of the two, so that the one
-- condition settles both (`settled`).
use mathlib.Core.Path.{◌≡◌, refl}
use mathlib.Core.Logic.{◌↔◌, inl, inr}
use mathlib.Core.Bool.{Bool, true, false, ◌||◌, cond}
use Prim.Native.Nat.{ℕ, ◌+◌, ◌*◌, ◌≤◌}
use native.Mathlib.Omega.{arith}
use borrow.Author.Tests.{ltb-true, ltb-false}
use lib.Dec.{ltb}
use lib.Ieee.{Float}
use Rattle.binary64.specs.Binary64.{at, plus_zero}
use Rattle.tri.specs.Mapping.{Tri}
use Rattle.tri.specs.Quadrature.{quadrature_rule, NoSuchRule, is_unknown}
use Rattle.tri.specs.declared.quadrature.QuadratureKind.{QuadratureKind}
use Rattle.tri.specs.Quadrature.{Rule}
use Rattle.std.specs.Prelude.{Some, None}
use Rattle.tri.proofs.Rules.{rule_off, rule_on}
use Rattle.refusal.specs.Numbers.{no_such_choice}
use Rattle.coupling.specs.Coupling.{geometric_coupling, geometric_coupling_regular}
use Rattle.coupling.specs.Block.{mutual_inductance_block}
use Rattle.coupling.specs.Calls.{refused, answer_of, block_of, triangle_geometric_coupling, triangle_geometric_coupling_regular, triangle_basis_mutual_inductance_block, triangle_basis_mutual_inductance, ChoiceNumbered, NoSuchEntry}

-- ---- a test that picks 12 or 0
abbrev pick : Bool → ℕ
pick t = cond t no_such_choice 0

settled : (t : Bool) (P : Type 0) → (t ≡ true) ↔ P → (t ≡ false) ↔ (P → ⊥) → ChoiceNumbered P (pick t)
settled t P on off = record { is_12 = (λ e. on.0 (told t e), λ h. rw (on.1 h)); is_0 = (λ e. off.0 (left t e), λ h. rw (off.1 h)) }
  where
    told : (t : Bool) → pick t ≡ no_such_choice → t ≡ true
    told true e = refl
    told false e = absurd (omega (arith, e))

    left : (t : Bool) → pick t ≡ 0 → t ≡ false
    left true e = absurd (omega (arith, e))
    left false e = refl

-- ---- the number of an answer
answer_number : (r : Rule) (f : QuadratureKind → Float) → (answer_of r f).refusal ≡ pick (is_unknown r)
unfolding answer_of refused
answer_number (Some kind) f = refl
answer_number None f = refl

block_number : (r : Rule) (s t : Tri) → (block_of r s t).refusal ≡ pick (is_unknown r)
unfolding block_of
block_number (Some kind) s t = refl
block_number None s t = refl

by_rule : (rule : ℕ) → ChoiceNumbered (NoSuchRule rule) (pick (is_unknown (quadrature_rule rule)))
by_rule rule = settled (is_unknown (quadrature_rule rule)) (NoSuchRule rule) (rule_on rule) (rule_off rule)

-- ---- the calls
pub coupling_numbered : (rule : ℕ) (s t : Tri) → ChoiceNumbered (NoSuchRule rule) (triangle_geometric_coupling rule s t).refusal
unfolding triangle_geometric_coupling
coupling_numbered rule s t = rw (answer_number (quadrature_rule rule) (λ kind. geometric_coupling kind s t)) (by_rule rule)

pub regular_numbered : (rule : ℕ) (s t : Tri) → ChoiceNumbered (NoSuchRule rule) (triangle_geometric_coupling_regular rule s t).refusal
unfolding triangle_geometric_coupling_regular
regular_numbered rule s t = rw (answer_number (quadrature_rule rule) (λ kind. geometric_coupling_regular kind s t)) (by_rule rule)

pub block_numbered : (rule : ℕ) (s t : Tri) → ChoiceNumbered (NoSuchRule rule) (triangle_basis_mutual_inductance_block rule s t).refusal
unfolding triangle_basis_mutual_inductance_block
block_numbered rule s t = rw (block_number (quadrature_rule rule) s t) (by_rule rule)

pub entry_numbered : (rule : ℕ) (s : Tri) (i : ℕ) (t : Tri) (j : ℕ) → ChoiceNumbered (NoSuchEntry rule i j) (triangle_basis_mutual_inductance rule s i t j).refusal
unfolding triangle_basis_mutual_inductance refused
entry_numbered rule s i t j = go (ltb 2 i) refl (ltb 2 j) refl
  where
    f : QuadratureKind → Float
    f kind = at (mutual_inductance_block kind s t) (i * 3 + j)

    above : NoSuchEntry rule i j → ChoiceNumbered (NoSuchEntry rule i j) no_such_choice
    above h = record { is_12 = (λ _. h, λ _. refl); is_0 = (λ e. absurd (omega (arith, e)), λ n. absurd (n h)) }

    past : i ≤ 2 → j ≤ 2 → NoSuchEntry rule i j → NoSuchRule rule
    past p q (inl l) = absurd (omega (arith, p, l))
    past p q (inr (inl l)) = absurd (omega (arith, q, l))
    past p q (inr (inr h)) = h

    go : (b : Bool) → ltb 2 i ≡ b → (c : Bool) → ltb 2 j ≡ c
        → ChoiceNumbered (NoSuchEntry rule i j) (cond (b || c) (record { refusal = no_such_choice; value = plus_zero }) (answer_of (quadrature_rule rule) f)).refusal
    go true p c q = above (inl (ltb-true 2 i p))
    go false p true q = above (inr (inl (ltb-true 2 j q)))
    go false p false q =
        let w = by_rule rule in
        let back = past (ltb-false 2 i p) (ltb-false 2 j q) in
        rw (answer_number (quadrature_rule rule) f)
        (record {
          is_12 = (λ e. inr (inr (w.is_12.0 e)), λ h. w.is_12.1 (back h));
          is_0 = (λ e h. w.is_0.0 e (back h), λ n. w.is_0.1 (λ h. n (inr (inr h))));
        })
