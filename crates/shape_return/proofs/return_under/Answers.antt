-- A refusal leaves everything as it was; a return that is done has an accepted mesh and shape, and its own claim is that of the call.
use mathlib.Core.Path.{refl, sym, subst}
use Prim.Native.Nat.{◌<◌}
use borrow.Author.Rules.{rules}
use Rattle.std.proofs.lemmas.Result.{err_from_is_err_and}
use Rattle.refusal.proofs.Outcome.{never_0}
use Rattle.mesh.specs.Mesh.{Mesh}
use Rattle.coupling.specs.Block.{mutual_inductance_block}
use Rattle.inductance.specs.Matrix.{cell, matrix}
use Rattle.inductance.proofs.Mirror.{cell-turned}
use Rattle.node_move.specs.Move.{on_panels}
use Rattle.shape_store.specs.Store.{Store, viewed_store, places, place_of}
use Rattle.shape_store.proofs.Places.{name_known, place-within}
use Rattle.shape_return.specs.Return.{named_shape, Coordinates, ShapeOf}
use Rattle.shape_return.proofs.Laws.{return_changes, return_fresh}
use Rattle.shape_return.proofs.Named.{read_there}
use Rattle.shape_return.proofs.Numbers.{place-room, shape-long, shape-done}
use Rattle.shape_return.proofs.Refused.{done_as, due-under, claim_refused, claim_done}
use Rattle.shape_return.proofs.return_under.Goals as goal

pub returns-in_err-p : goal.returns-in_err-p
returns-in_err-p c =
    let a = c.args in
    let lent : Mesh = on_panels a.x.now a.y.now a.z.now a.panels.now in
    let store : Store = viewed_store a.store.now in
    let f = mutual_inductance_block a.kind in
    let w = a.name.now in
    let p = err_from_is_err_and c.from_residual.result c.from_residual.ensures.1 in
    rw (p.1, p.2) (claim_refused Unit (cell f) (matrix f) _ lent store w a.out.now (due-under lent store w _) _ (never_0 _) c.in_err-p.ensures.number)

pub shape_at-shape-requires : goal.shape_at-shape-requires
shape_at-shape-requires c =
    let a = c.args in
    let store : Store = viewed_store a.store.now in
    let done = (shape-done (on_panels a.x.now a.y.now a.z.now a.panels.now) store a.name.now _).0 (sym c.in_ok-p.ensures.number) in
    let within : place_of store a.name.now < places = place-within store a.name.now ((name_known store a.name.now).1 done.2) in
    let k = done.1.store.columns in
    rw c.in_ok-p.ensures.place (record { x_room = place-room _ _ _ k.first within; y_room = place-room _ _ _ k.second within; z_room = place-room _ _ _ k.third within })

pub restore-count-requires : goal.restore-count-requires
restore-count-requires c =
    let a = c.args in
    let lent : Mesh = on_panels a.x.now a.y.now a.z.now a.panels.now in
    let store : Store = viewed_store a.store.now in
    let done = (shape-done lent store a.name.now _).0 (sym c.in_ok-p.ensures.number) in
    let within : place_of store a.name.now < places = place-within store a.name.now ((name_known store a.name.now).1 done.2) in
    let there = read_there a.x.now a.y.now a.z.now a.panels.now store a.name.now _ c.in_ok-p.p c.shape_at-shape.result refl c.in_ok-p.ensures.place c.shape_at-shape.ensures.columns in
    record {
      shape_of = subst (λ (m₁ : Mesh). ShapeOf m₁ lent) (sym there) (record { mesh = done.0; shape = done.3; as_many = shape-long lent store (place_of store a.name.now) done.1.store within });
      out_len = done.1.cells;
    }

pub returns : goal.returns
returns c =
    let a = c.args in
    let lent : Mesh = on_panels a.x.now a.y.now a.z.now a.panels.now in
    let store : Store = viewed_store a.store.now in
    let w = a.name.now in
    let m₁ : Mesh = named_shape lent store w in
    let done = (shape-done lent store w _).0 (sym c.in_ok-p.ensures.number) in
    let within : place_of store w < places = place-within store w ((name_known store w).1 done.2) in
    let there = read_there a.x.now a.y.now a.z.now a.panels.now store w _ c.in_ok-p.p c.shape_at-shape.result refl c.in_ok-p.ensures.place c.shape_at-shape.ensures.columns in
    let h : Coordinates lent = (search rules, search rules, search rules) in
    let h₁ : Coordinates m₁ = subst Coordinates there c.shape_at-shape.ensures.numbers in
    let f = mutual_inductance_block a.kind in
    let law = return_fresh f lent m₁ (return_changes lent m₁ h h₁ refl refl refl) (shape-long lent store (place_of store w) done.1.store within) in
    claim_done Unit (cell f) (matrix f) _ lent store w a.out.now (due-under lent store w _) _ _ _ (cell-turned f m₁) law c.in_ok-p.ensures.number (done_as there c.restore-count.ensures)
