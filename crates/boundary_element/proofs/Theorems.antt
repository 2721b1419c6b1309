-- The number of the call on a mesh by its conditions: 5 and 6 stand behind the mesh's checks, and the laws of a call that tests its mesh do the rest.
use mathlib.Core.Path.{◌≡◌}
use mathlib.Core.Bool.{not}
use mathlib.Core.List.{[], ◌∷◌}
use Prim.Native.Nat.{ℕ}
use lib.Dec.{eqb}
use Rattle.refusal.specs.Numbers.{nodal_values, output_length}
use Rattle.refusal.specs.Checks.{check}
use Rattle.refusal.proofs.Checks.{applies-first}
use Rattle.refusal.proofs.Tests.{on, differ_off}
use Rattle.lists.specs.Columns.{columns_differ, ColumnsDue}
use Rattle.lists.proofs.Columns.{columns_off}
use Rattle.mesh.specs.Mesh.{Mesh, nnode, ntri, max_nodes, max_panels}
use Rattle.mesh.proofs.Calls.{call_behind, call_area, call_done, call_of_mesh}
use Rattle.boundary_element.specs.CurrentDensity.{density_checks, density_refusal, DensityNumbered}

pub density_numbered : (m : Mesh) (values lx ly lz : ℕ) → DensityNumbered m values lx ly lz (density_refusal m values lx ly lz)
unfolding density_refusal
density_numbered m values lx ly lz =
    let post = density_checks (nnode m) (ntri m) values lx ly lz in
    let few = not (eqb values (nnode m)) in
    let short = columns_differ (ntri m) lx ly lz in
    let w4 = call_area max_nodes max_panels m [] post Unit (λ h. h, λ h. h) tt tt in
    let w5 = call_behind max_nodes max_panels m [] post Unit (λ h. h, λ h. h) nodal_values tt tt tt in
    let w6 = call_behind max_nodes max_panels m [] post Unit (λ h. h, λ h. h) output_length tt tt tt in
    let w0 = call_done max_nodes max_panels m [] post Unit (λ h. h, λ h. h) tt tt in
    let own5 = applies-first [] nodal_values few (check output_length short ∷ []) tt tt tt in
    let own6 = applies-first (check nodal_values few ∷ []) output_length short [] tt tt tt in
    let v-off = differ_off values (nnode m) in
    let v-on = on few (values ≡ nnode m) v-off in
    let o-off = columns_off (ntri m) lx ly lz in
    let o-on = on short (ColumnsDue (ntri m) lx ly lz) o-off in
    record {
      mesh = call_of_mesh max_nodes max_panels m [] post Unit (λ h. h, λ h. h) tt tt;
      is_4 = (λ e. (w4.0 e).1, λ h. w4.1 (tt, h));
      is_5 = (λ e. let v = w5.0 e in (v.1, v-on.0 (own5.0 v.2).1), λ h. w5.1 (tt, h.0, own5.1 (tt, v-on.1 h.1)));
      is_6 = (
        (λ e. let v = w6.0 e in let u = own6.0 v.2 in (v.1, v-off.0 u.0.0, o-on.0 u.1)),
        λ h. w6.1 (tt, h.0, own6.1 ((v-off.1 h.1, tt), o-on.1 h.2)),
      );
      is_0 = (λ e. let v = w0.0 e in (v.1, v-off.0 v.2.0, o-off.0 v.2.1.0), λ h. w0.1 (tt, h.0, (v-off.1 h.1, (o-off.1 h.2, tt))));
    }
