-- A refusal leaves everything as it was; a save that is done has a store of the due size and a place below eight, and each list is left as the definition has it.
use mathlib.Core.Path.{◌≡◌, refl, sym, ◌∙◌}
use mathlib.Core.List.{List}
use Prim.Native.Nat.{ℕ, ◌<◌}
use native.Mathlib.Omega.{arith}
use Rattle.std.proofs.Common.{Some}
use Rattle.std.proofs.lemmas.Result.{err_from_is_err_and}
use Rattle.refusal.proofs.Outcome.{never_0}
use Rattle.mesh.specs.Mesh.{Mesh, nnode, max_nodes, max_panels}
use Rattle.mesh.specs.Columns.{viewed}
use Rattle.mesh.specs.Conditions.{Accepted}
use Rattle.shape_store.specs.Store.{Store, store_of, places, place_for, place_below, store_refusal, save_refusal}
use Rattle.shape_store.specs.Conditions.{StoreSized}
use Rattle.shape_store.proofs.Calls.{for_bounds, store-accepted, save_accepted, save_stopped, save_full, save_placed, save_done}
use Rattle.shape_store.proofs.Found.{none_told, place_told}
use Rattle.shape_store.proofs.save_shape.Goals as goal

abbrev Ready : Mesh → Store → List ℕ → ℕ → Type 0
Ready m s w p = (save_refusal m s w ≡ 0) × Accepted max_nodes max_panels m × StoreSized (nnode m) s × (p ≡ place_for s w) × (p < places)

ready : (m : Mesh) (s : Store) (w : List ℕ) (p : ℕ) → 0 ≡ store_refusal m s → place_below (place_for s w) ≡ Some p → Ready m s w p
ready m s w p e f =
    let t = place_told (place_for s w) p f in
    let z = save_placed m s w 0 e refl (λ q. absurd (omega (arith, q, t.0, t.1))) in
    let a = save_accepted m s w z in
    (z, a.0, a.1, sym t.0, t.1)

pub returns-in_err-check_store : goal.returns-in_err-check_store
returns-in_err-check_store c =
    let p = err_from_is_err_and c.from_residual.result c.from_residual.ensures.1 in
    rw (p.1, p.2) (save_stopped _ _ _ _ (rw c.lent-store.ensures at c.in_err-check_store.ensures) (never_0 _))

pub place_for-requires : goal.place_for-requires
place_for-requires c =
    let a = c.args in
    let k = (store-accepted (viewed a.mesh.now) (store_of a.marks.now a.names.now a.sx.now a.sy.now a.sz.now) a.name.now 0 (rw c.lent-store.ensures at c.in_ok-check_store.ensures) refl).1 in
    (k.marks-long, k.names-long)

pub returns-in_default : goal.returns-in_default
returns-in_default c =
    let a = c.args in
    let store : Store = store_of a.marks.now a.names.now a.sx.now a.sy.now a.sz.now in
    save_full (viewed a.mesh.now) store a.name.now 0 (rw c.lent-store.ensures at c.in_ok-check_store.ensures) refl (none_told _ (for_bounds store a.name.now) (sym c.place_for.ensures ∙ c.in_default.is))

pub save_coordinates-requires : goal.save_coordinates-requires
save_coordinates-requires c =
    let a = c.args in
    let k = ready (viewed a.mesh.now) (store_of a.marks.now a.names.now a.sx.now a.sy.now a.sz.now) a.name.now c.in-Some.p (rw c.lent-store.ensures at c.in_ok-check_store.ensures) (sym c.place_for.ensures ∙ c.in-Some.is) in
    record {
      second = k.1.nodes_alike.ys_long;
      third = k.1.nodes_alike.zs_long;
      room = k.2.columns;
      small = k.1.limits.few_nodes;
      within = k.4;
    }

pub name_place-requires : goal.name_place-requires
name_place-requires c =
    let a = c.args in
    let k = ready (viewed a.mesh.now) (store_of a.marks.now a.names.now a.sx.now a.sy.now a.sz.now) a.name.now c.in-Some.p (rw c.lent-store.ensures at c.in_ok-check_store.ensures) (sym c.place_for.ensures ∙ c.in-Some.is) in
    (k.2.marks-long, k.2.names-long, k.4)

pub returns : goal.returns
returns c =
    let a = c.args in
    let lent : Mesh = viewed a.mesh.now in
    let store : Store = store_of a.marks.now a.names.now a.sx.now a.sy.now a.sz.now in
    let k = ready lent store a.name.now c.in-Some.p (rw c.lent-store.ensures at c.in_ok-check_store.ensures) (sym c.place_for.ensures ∙ c.in-Some.is) in
    let e = c.save_coordinates.ensures in
    let n = c.name_place.ensures in
    save_done lent store a.name.now c.in-Some.p _ k.0 k.3 (record { marks = n.marks_value; names = n.names_value; xs = e.sx_value; ys = e.sy_value; zs = e.sz_value })
