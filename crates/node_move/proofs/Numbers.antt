-- The move's number by its conditions: 12 stands before the mesh's checks, 6, 13 and 4 of the moved mesh behind them, and the laws of a call that tests its mesh do the rest, with 4 in two places.
-- A mesh that was accepted and has no panel of zero area once moved is accepted as moved.
use mathlib.Core.Path.{◌≡◌, sym, ◌∙◌}
use mathlib.Core.Logic.{◌↔◌}
use mathlib.Core.Bool.{Bool, false, not}
use mathlib.Core.List.{[], ◌∷◌}
use Prim.Native.Nat.{ℕ, ◌*◌, ◌<◌, ◌≤◌}
use borrow.Author.Tests.{leb-true, leb-false, le-leb, lt-leb}
use lib.Dec.{eqb, leb}
use lib.ListN.{length-set}
use lib.Ieee.{Float}
use Rattle.refusal.specs.Numbers.{output_length, no_such_node, zero_area}
use Rattle.refusal.specs.Checks.{check, first}
use Rattle.refusal.proofs.Checks.{applies-first}
use Rattle.mesh.specs.Mesh.{Mesh, nnode, some_zero_area, max_nodes, max_panels}
use Rattle.mesh.specs.Conditions.{ZeroArea, NoZeroArea, Accepted}
use Rattle.refusal.proofs.Tests.{on, differ_off}
use Rattle.mesh.proofs.Refusals.{area_on, area_off}
use Rattle.mesh.proofs.Calls.{call_done}
use Rattle.node_move.specs.Move.{moved, place_checks, place_refusal}

pub moved-accepted : (m : Mesh) (v : ℕ) (x y z : Float) → Accepted max_nodes max_panels m → NoZeroArea (moved m v x y z) → Accepted max_nodes max_panels (moved m v x y z)
moved-accepted m v x y z a h =
    let l = length-set m.xs v x in
    record {
      nodes_alike = record { ys_long = length-set m.ys v y ∙ a.nodes_alike.ys_long ∙ sym l; zs_long = length-set m.zs v z ∙ a.nodes_alike.zs_long ∙ sym l };
      panels_alike = record { t1_long = a.panels_alike.t1_long; t2_long = a.panels_alike.t2_long };
      limits = record { few_nodes = rw l a.limits.few_nodes; few_panels = a.limits.few_panels };
      none_missing = λ i k. let b = a.none_missing i k in record { below0 = rw l b.below0; below1 = rw l b.below1; below2 = rw l b.below2 };
      no_zero_area = h;
    }

module _ (m : Mesh) (size v : ℕ) (x y z : Float) where
  abbrev differs : Bool
  differs = not (eqb size (nnode m * nnode m))

  pub size_off : (differs ≡ false) ↔ (size ≡ nnode m * nnode m)
  size_off = differ_off size (nnode m * nnode m)

  pub node_off : (leb (nnode m) v ≡ false) ↔ (v < nnode m)
  node_off = (leb-false (nnode m) v, lt-leb (nnode m) v)

  -- ---- the checks behind the mesh's
  pub first_6 : (first (place_checks m size v x y z) ≡ output_length) ↔ (size ≡ nnode m * nnode m → ⊥)
  first_6 =
      let w = applies-first [] output_length differs (check no_such_node (leb (nnode m) v) ∷ check zero_area (some_zero_area (moved m v x y z)) ∷ []) tt tt tt in
      let past = on differs (size ≡ nnode m * nnode m) size_off in
      (λ e. past.0 (w.0 e).1, λ h. w.1 (tt, past.1 h))

  pub first_13 : (first (place_checks m size v x y z) ≡ no_such_node) ↔ ((size ≡ nnode m * nnode m) × (nnode m ≤ v))
  first_13 =
      let w = applies-first (check output_length differs ∷ []) no_such_node (leb (nnode m) v) (check zero_area (some_zero_area (moved m v x y z)) ∷ []) tt tt tt in
      (λ e. let u = w.0 e in (size_off.0 u.0.0, leb-true (nnode m) v u.1), λ h. w.1 ((size_off.1 h.0, tt), le-leb (nnode m) v h.1))

  pub first_4 : (first (place_checks m size v x y z) ≡ zero_area) ↔ ((size ≡ nnode m * nnode m) × (v < nnode m) × ZeroArea (moved m v x y z))
  first_4 =
      let w = applies-first (check output_length differs ∷ check no_such_node (leb (nnode m) v) ∷ []) zero_area (some_zero_area (moved m v x y z)) [] tt tt tt in
      let area = area_on (moved m v x y z) in (
        (λ e. let u = w.0 e in (size_off.0 u.0.0, node_off.0 u.0.1.0, area.0 u.1)),
        λ h. w.1 ((size_off.1 h.0, (node_off.1 h.1, tt)), area.1 h.2),
      )

  -- ---- under a rule that there is, done
  pub place-done : (place_refusal m size v x y z ≡ 0) ↔ (Accepted max_nodes max_panels m × (size ≡ nnode m * nnode m) × (v < nnode m) × Accepted max_nodes max_panels (moved m v x y z))
  unfolding place_refusal
  place-done =
      let w = call_done max_nodes max_panels m [] (place_checks m size v x y z) Unit (λ h. h, λ h. h) tt tt in
      let area = area_off (moved m v x y z) in (
        (λ e. let u = w.0 e in (u.1, size_off.0 u.2.0, node_off.0 u.2.1.0, moved-accepted m v x y z u.1 (area.0 u.2.1.1.0))),
        λ h. w.1 (tt, h.0, (size_off.1 h.1, (node_off.1 h.2, (area.1 h.3.no_zero_area, tt)))),
      )
