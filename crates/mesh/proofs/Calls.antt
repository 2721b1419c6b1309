-- The number of a call that tests its mesh between checks of its own: `in_parts`, the law of checks in two parts, cuts the list before and behind the mesh's, and a part that lacks a number
-- does not give it. The mesh's own conditions are those of `numbered`.
use mathlib.Core.Path.{◌≡◌}
use mathlib.Core.Logic.{◌↔◌, ◌⊎◌, inl, inr}
use mathlib.Core.Bool.{Bool, true, not, ◌&&◌}
use mathlib.Core.List.{List, [], ◌∷◌, ◌++◌}
use Prim.Native.Nat.{ℕ}
use lib.Dec.{T, eqb}
use lib.Ieee.Fits.{and_l, and_r}
use Rattle.tri.specs.Quadrature.{quadrature_rule, NoSuchRule, is_unknown}
use Rattle.tri.proofs.Rules.{rule_off, rule_on}
use Rattle.refusal.specs.Numbers.{no_such_choice}
use Rattle.refusal.specs.Checks.{Check, check, first, Clear, lacks}
use Rattle.refusal.proofs.Checks.{none-applies, applies-first, in_parts, clear_parts, lacks_parts, of_front, of_back}
use Rattle.mesh.specs.Mesh.{Mesh, mesh_checks, mesh_refusal}
use Rattle.mesh.specs.Conditions.{Refused4, Accepted, MeshNumbered}
use Rattle.mesh.proofs.Refusals.{numbered}

-- ---- the mesh's own checks
-- k is none of the mesh's numbers
abbrev pub apart : ℕ → Bool
apart k = not (eqb 1 k) && (not (eqb 2 k) && (not (eqb 11 k) && (not (eqb 3 k) && (not (eqb 4 k) && true))))

-- a list has none of the numbers that are the mesh's alone
abbrev pub mesh_free : List Check → Bool
mesh_free cs = lacks 1 cs && (lacks 2 cs && (lacks 11 cs && lacks 3 cs))

module _ (n p : ℕ) (m : Mesh) where
  pub mesh-lacks : (k : ℕ) → T (apart k) → T (lacks k (mesh_checks n p m))
  unfolding mesh_checks
  mesh-lacks k h = h

  pub mesh_clear : Clear (mesh_checks n p m) ↔ Accepted n p m
  unfolding mesh_refusal
  mesh_clear =
      let w = none-applies (mesh_checks n p m) (mesh-lacks 0 tt) in
      let k = (numbered n p m).is_0 in
      (λ h. k.0 (w.1 h), λ a. w.0 (k.1 a))

  -- ---- a call with checks of its own before the mesh's and behind them; Before is what lets it come to its mesh
  module _ (pre post : List Check) (Before : Type 0) (passed : Clear pre ↔ Before) where
    abbrev number : ℕ
    number = first (pre ++ (mesh_checks n p m ++ post))

    -- a number of its own before the mesh
    pub call_before : (k : ℕ) → T (not (eqb k 0)) → T (apart k) → T (lacks k post) → (number ≡ k) ↔ (first pre ≡ k)
    call_before k z a o = of_front pre (mesh_checks n p m ++ post) k z (lacks_parts k (mesh_checks n p m) post (mesh-lacks k a) o)

    -- a number of the mesh's
    call_mesh : (k : ℕ) → T (not (eqb k 0)) → T (lacks k pre) → T (lacks k post) → (number ≡ k) ↔ (Before × (mesh_refusal n p m ≡ k))
    unfolding mesh_refusal
    call_mesh k z l o =
        let w = of_back pre (mesh_checks n p m ++ post) k z l in
        let b = of_front (mesh_checks n p m) post k z o in
        (λ e. let v = w.0 e in (passed.0 v.0, b.0 v.1), λ h. w.1 (passed.1 h.0, b.1 h.1))

    -- a number of its own behind the mesh
    pub call_behind : (k : ℕ) → T (not (eqb k 0)) → T (lacks k pre) → T (apart k) → (number ≡ k) ↔ (Before × Accepted n p m × (first post ≡ k))
    call_behind k z l a =
        let w = of_back pre (mesh_checks n p m ++ post) k z l in
        let b = of_back (mesh_checks n p m) post k z (mesh-lacks k a) in (
          (λ e. let v = w.0 e in let u = b.0 v.1 in (passed.0 v.0, mesh_clear.0 u.0, u.1)),
          λ h. w.1 (passed.1 h.0, b.1 (mesh_clear.1 h.1, h.2)),
        )

    -- a number of the mesh's that stands behind it once more
    pub call_twice : (k : ℕ) → T (not (eqb k 0)) → T (lacks k pre)
        → (number ≡ k) ↔ (Before × ((mesh_refusal n p m ≡ k) ⊎ (Accepted n p m × (first post ≡ k))))
    unfolding mesh_refusal
    call_twice k z l =
        let w = of_back pre (mesh_checks n p m ++ post) k z l in
        let b = in_parts (mesh_checks n p m) post k z in
        (λ e. let v = w.0 e in (passed.0 v.0, on (b.0 v.1)), λ h. w.1 (passed.1 h.0, b.1 (back h.1)))
      where
        on : (first (mesh_checks n p m) ≡ k) ⊎ (Clear (mesh_checks n p m) × (first post ≡ k)) → (first (mesh_checks n p m) ≡ k) ⊎ (Accepted n p m × (first post ≡ k))
        on (inl e) = inl e
        on (inr h) = inr (mesh_clear.0 h.0, h.1)

        back : (first (mesh_checks n p m) ≡ k) ⊎ (Accepted n p m × (first post ≡ k)) → (first (mesh_checks n p m) ≡ k) ⊎ (Clear (mesh_checks n p m) × (first post ≡ k))
        back (inl e) = inl e
        back (inr h) = inr (mesh_clear.1 h.0, h.1)

    -- done
    pub call_done : T (lacks 0 pre) → T (lacks 0 post) → (number ≡ 0) ↔ (Before × Accepted n p m × Clear post)
    call_done l o =
        let rest = lacks_parts 0 (mesh_checks n p m) post (mesh-lacks 0 tt) o in
        let w = none-applies (pre ++ (mesh_checks n p m ++ post)) (lacks_parts 0 pre (mesh_checks n p m ++ post) l rest) in
        let a = clear_parts pre (mesh_checks n p m ++ post) in
        let b = clear_parts (mesh_checks n p m) post in (
          (λ e. let v = a.0 (w.0 e) in let u = b.0 v.1 in (passed.0 v.0, mesh_clear.0 u.0, u.1)),
          λ h. w.1 (a.1 (passed.1 h.0, b.1 (mesh_clear.1 h.1, h.2))),
        )

    -- the numbers that are the mesh's alone
    pub call_of_mesh : T (mesh_free pre) → T (mesh_free post) → MeshNumbered Before n p m number
    call_of_mesh l o =
        let k = numbered n p m in
        let l2 = and_r (lacks 1 pre) _ l in
        let o2 = and_r (lacks 1 post) _ o in
        let l11 = and_r (lacks 2 pre) _ l2 in
        let o11 = and_r (lacks 2 post) _ o2 in
        let w1 = call_mesh 1 tt (and_l (lacks 1 pre) _ l) (and_l (lacks 1 post) _ o) in
        let w2 = call_mesh 2 tt (and_l (lacks 2 pre) _ l2) (and_l (lacks 2 post) _ o2) in
        let w11 = call_mesh 11 tt (and_l (lacks 11 pre) _ l11) (and_l (lacks 11 post) _ o11) in
        let w3 = call_mesh 3 tt (and_r (lacks 11 pre) (lacks 3 pre) l11) (and_r (lacks 11 post) (lacks 3 post) o11) in
        record {
          is_1 = (λ e. let v = w1.0 e in (v.0, k.is_1.0 v.1), λ h. w1.1 (h.0, k.is_1.1 h.1));
          is_2 = (λ e. let v = w2.0 e in (v.0, k.is_2.0 v.1), λ h. w2.1 (h.0, k.is_2.1 h.1));
          is_11 = (λ e. let v = w11.0 e in (v.0, k.is_11.0 v.1), λ h. w11.1 (h.0, k.is_11.1 h.1));
          is_3 = (λ e. let v = w3.0 e in (v.0, k.is_3.0 v.1), λ h. w3.1 (h.0, k.is_3.1 h.1));
        }

    -- 4, where no check behind the mesh has it
    pub call_area : T (lacks 4 pre) → T (lacks 4 post) → (number ≡ 4) ↔ (Before × Refused4 n p m)
    call_area l o =
        let w = call_mesh 4 tt l o in
        let k = (numbered n p m).is_4 in
        (λ e. let v = w.0 e in (v.0, k.0 v.1), λ h. w.1 (h.0, k.1 h.1))

-- ---- the check for 12, before a mesh
abbrev pub rule_checks : ℕ → List Check
rule_checks number = check no_such_choice (is_unknown (quadrature_rule number)) ∷ []

pub rule_passed : (number : ℕ) → Clear (rule_checks number) ↔ (NoSuchRule number → ⊥)
rule_passed number = (λ h. (rule_off number).0 h.0, λ h. ((rule_off number).1 h, tt))

pub rule_stopped : (number : ℕ) → (first (rule_checks number) ≡ no_such_choice) ↔ NoSuchRule number
rule_stopped number =
    let w = applies-first [] no_such_choice (is_unknown (quadrature_rule number)) [] tt tt tt in
    (λ e. (rule_on number).0 (w.0 e).1, λ h. w.1 (tt, (rule_on number).1 h))
