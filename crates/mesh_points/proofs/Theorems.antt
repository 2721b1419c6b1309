-- The call's number by its conditions: by cases on the rule it is the first of one list, 12 before the mesh's checks and 6 behind them, and the laws of a call that tests its mesh do the rest.
use mathlib.Core.Path.{◌≡◌, refl, sym, subst}
use mathlib.Core.List.{List, [], ◌∷◌, ◌++◌}
use Prim.Native.Nat.{ℕ, ◌*◌}
use Rattle.tri.specs.Quadrature.{quadrature_rule, NoSuchRule, is_unknown}
use Rattle.tri.specs.Quadrature.{Rule}
use Rattle.std.specs.Prelude.{Some, None}
use Rattle.refusal.specs.Numbers.{no_such_choice, output_length}
use Rattle.refusal.specs.Checks.{Check, check, first}
use Rattle.refusal.proofs.Checks.{applies-first}
use Rattle.refusal.proofs.Tests.{on}
use Rattle.mesh.specs.Mesh.{Mesh, ntri, mesh_checks, max_nodes, max_panels}
use Rattle.mesh.proofs.Calls.{call_before, call_behind, call_area, call_done, call_of_mesh, rule_checks, rule_passed, rule_stopped}
use Rattle.mesh_points.specs.QuadraturePoints.{point_columns_differ, points_refusal, rule_refusal, points_in, PointColumnsDue, PointsNumbered}
use Rattle.mesh_points.proofs.Ready.{point-columns_off}

module _ (m : Mesh) (lx ly lz lw : ℕ) where
  -- 6, behind the mesh
  abbrev behind : Rule → List Check
  behind rule = check output_length (point_columns_differ (ntri m * points_in rule) lx ly lz lw) ∷ []

  one_list : (rule : Rule) → rule_refusal rule m lx ly lz lw ≡ first (check no_such_choice (is_unknown rule) ∷ mesh_checks max_nodes max_panels m ++ behind rule)
  unfolding points_refusal first
  one_list (Some kind) = refl
  one_list None = refl

  pub points_numbered : (number : ℕ) → PointsNumbered number m lx ly lz lw (rule_refusal (quadrature_rule number) m lx ly lz lw)
  points_numbered number =
      let pre = rule_checks number in
      let post = behind (quadrature_rule number) in
      let Before : Type 0 = NoSuchRule number → ⊥ in
      let passed = rule_passed number in
      let test = point_columns_differ (ntri m * points_in (quadrature_rule number)) lx ly lz lw in
      let w12 = call_before max_nodes max_panels m pre post Before passed no_such_choice tt tt tt in
      let w6 = call_behind max_nodes max_panels m pre post Before passed output_length tt tt tt in
      let w0 = call_done max_nodes max_panels m pre post Before passed tt tt in
      let own = applies-first [] output_length test [] tt tt tt in
      let off = point-columns_off (ntri m * points_in (quadrature_rule number)) lx ly lz lw in
      let past = on test (PointColumnsDue (ntri m * points_in (quadrature_rule number)) lx ly lz lw) off in
      subst (λ (r : ℕ). PointsNumbered number m lx ly lz lw r) (sym (one_list (quadrature_rule number)))
      (record {
        is_12 = (λ e. (rule_stopped number).0 (w12.0 e), λ h. w12.1 ((rule_stopped number).1 h));
        mesh = call_of_mesh max_nodes max_panels m pre post Before passed tt tt;
        is_4 = call_area max_nodes max_panels m pre post Before passed tt tt;
        is_6 = (
          (λ e. let v = w6.0 e in (v.0, v.1, past.0 (own.0 v.2).1)),
          λ h. w6.1 (h.0, h.1, own.1 (tt, past.1 h.2)),
        );
        is_0 = (λ e. let v = w0.0 e in (v.0, v.1, off.0 v.2.0), λ h. w0.1 (h.0, h.1, (off.1 h.2, tt)));
      })
