-- A refusal leaves everything as it was; a drop that is done has a store of the due size and a place below eight, whose mark is written.
use mathlib.Core.Path.{◌≡◌, refl, sym, ◌∙◌}
use native.Mathlib.Omega.{arith}
use Rattle.std.proofs.lemmas.Result.{err_from_is_err_and}
use Rattle.lists.proofs.First.{next_bounds}
use Rattle.refusal.proofs.Outcome.{never_0}
use Rattle.mesh.specs.Mesh.{Mesh}
use Rattle.mesh.specs.Columns.{viewed}
use Rattle.shape_store.specs.Store.{Store, with_shapes, places, holds_name, place_of, drop_refusal}
use Rattle.shape_store.proofs.Calls.{store-accepted, drop_stopped, drop_unknown, drop_known, drop-done}
use Rattle.shape_store.proofs.Found.{none_told, place_told}
use Rattle.shape_store.proofs.drop_shape.Goals as goal

pub returns-in_err-check_store : goal.returns-in_err-check_store
returns-in_err-check_store c =
    let p = err_from_is_err_and c.from_residual.result c.from_residual.ensures.1 in
    rw (p.1, p.2) (drop_stopped _ _ _ _ c.in_err-check_store.ensures (never_0 _))

pub find_name-requires : goal.find_name-requires
find_name-requires c =
    let a = c.args in
    let k = (store-accepted (viewed a.mesh.now) (with_shapes a.marks.now a.names.now a.shapes.now) a.name.now 0 c.in_ok-check_store.ensures refl).1 in
    (k.marks-long, k.names-long)

pub returns-in_default : goal.returns-in_default
returns-in_default c =
    let a = c.args in
    let store : Store = with_shapes a.marks.now a.names.now a.shapes.now in
    drop_unknown (viewed a.mesh.now) store a.name.now 0 c.in_ok-check_store.ensures refl (none_told _ (next_bounds (holds_name store a.name.now) 0 places).1 (sym c.find_name.ensures ∙ c.in_default.is))

pub bounds-marks-p : goal.bounds-marks-p
bounds-marks-p c =
    let a = c.args in
    let k = (store-accepted (viewed a.mesh.now) (with_shapes a.marks.now a.names.now a.shapes.now) a.name.now 0 c.in_ok-check_store.ensures refl).1 in
    rw k.marks-long (place_told _ c.in-Some.p (sym c.find_name.ensures ∙ c.in-Some.is)).1

pub returns : goal.returns
returns c =
    let a = c.args in
    let lent : Mesh = viewed a.mesh.now in
    let store : Store = with_shapes a.marks.now a.names.now a.shapes.now in
    let t = place_told (place_of store a.name.now) c.in-Some.p (sym c.find_name.ensures ∙ c.in-Some.is) in
    let known : drop_refusal lent store a.name.now ≡ 0 = drop_known lent store a.name.now 0 c.in_ok-check_store.ensures refl (λ q. absurd (omega (arith, q, t.0, t.1))) in
    drop-done lent store a.name.now c.in-Some.p known (sym t.0)
