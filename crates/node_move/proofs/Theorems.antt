-- The move's number by its conditions in words. Runs of moves and returns are theorems of `shape_return`.
use mathlib.Core.Path.{◌≡◌}
use Prim.Native.Nat.{ℕ}
use lib.Ieee.{Float}
use Rattle.mesh.specs.Mesh.{Mesh, mesh_refusal, max_nodes, max_panels}
use Rattle.node_move.specs.Move.{moved, place_checks, move_refusal, MovedRefused4, MoveNumbered}
use mathlib.Core.Logic.{◌⊎◌, inl, inr}
use Rattle.tri.specs.Quadrature.{quadrature_rule, NoSuchRule}
use Rattle.refusal.specs.Numbers.{no_such_choice, output_length, no_such_node, zero_area}
use Rattle.refusal.specs.Checks.{first}
use Rattle.mesh.specs.Conditions.{Refused4, Accepted}
use Rattle.mesh.proofs.Refusals.{numbered, area_off}
use Rattle.mesh.proofs.Calls.{call_before, call_behind, call_twice, call_done, call_of_mesh, rule_checks, rule_passed, rule_stopped}
use Rattle.node_move.proofs.Numbers.{moved-accepted, size_off, node_off, first_6, first_13, first_4}

module _ (m : Mesh) (size v : ℕ) (x y z : Float) where
  -- each number of the move by its condition in words
  pub move_numbered : (number : ℕ) → MoveNumbered number m size v x y z (move_refusal (quadrature_rule number) m size v x y z)
  unfolding move_refusal
  move_numbered number =
      let pre = rule_checks number in
      let post = place_checks m size v x y z in
      let Before : Type 0 = NoSuchRule number → ⊥ in
      let passed = rule_passed number in
      let w12 = call_before max_nodes max_panels m pre post Before passed no_such_choice tt tt tt in
      let w6 = call_behind max_nodes max_panels m pre post Before passed output_length tt tt tt in
      let w13 = call_behind max_nodes max_panels m pre post Before passed no_such_node tt tt tt in
      let w4 = call_twice max_nodes max_panels m pre post Before passed zero_area tt tt in
      let w0 = call_done max_nodes max_panels m pre post Before passed tt tt in
      let area = area_off (moved m v x y z) in
      record {
        is_12 = (λ e. (rule_stopped number).0 (w12.0 e), λ h. w12.1 ((rule_stopped number).1 h));
        mesh = call_of_mesh max_nodes max_panels m pre post Before passed tt tt;
        is_6 = (λ e. let u = w6.0 e in (u.0, u.1, (first_6 m size v x y z).0 u.2), λ h. w6.1 (h.0, h.1, (first_6 m size v x y z).1 h.2));
        is_13 = (λ e. let u = w13.0 e in let q = (first_13 m size v x y z).0 u.2 in (u.0, u.1, q.0, q.1), λ h. w13.1 (h.0, h.1, (first_13 m size v x y z).1 (h.2, h.3)));
        is_4 = (λ e. let u = w4.0 e in (u.0, told u.1), λ h. w4.1 (h.0, back h.1));
        is_0 = (
          (λ e. let u = w0.0 e in (u.0, u.1, (size_off m size v x y z).0 u.2.0, (node_off m size v x y z).0 u.2.1.0, moved-accepted m v x y z u.1 (area.0 u.2.1.1.0))),
          λ h. w0.1 (h.0, h.1, ((size_off m size v x y z).1 h.2, ((node_off m size v x y z).1 h.3, (area.1 h.4.no_zero_area, tt)))),
        );
      }
    where
      told : (mesh_refusal max_nodes max_panels m ≡ zero_area) ⊎ (Accepted max_nodes max_panels m × (first (place_checks m size v x y z) ≡ zero_area)) → Refused4 max_nodes max_panels m ⊎ MovedRefused4 m size v x y z
      told (inl e) = inl ((numbered max_nodes max_panels m).is_4.0 e)
      told (inr h) = let q = (first_4 m size v x y z).0 h.1 in inr (h.0, q.0, q.1, q.2)

      back : Refused4 max_nodes max_panels m ⊎ MovedRefused4 m size v x y z → (mesh_refusal max_nodes max_panels m ≡ zero_area) ⊎ (Accepted max_nodes max_panels m × (first (place_checks m size v x y z) ≡ zero_area))
      back (inl h) = inl ((numbered max_nodes max_panels m).is_4.1 h)
      back (inr h) = inr (h.0, (first_4 m size v x y z).1 (h.1, h.2, h.3))
