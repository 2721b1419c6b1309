-- The mesh's number stops the call, or the lengths do, or the name does; then the shape of the name is tested. A store of the due size has the name's place and its stretch of each column.
use mathlib.Core.Path.{sym, ap, ◌∙◌}
use native.Mathlib.Omega.{arith}
use Rattle.std.proofs.lemmas.Result.{err_from_is_err_and}
use Rattle.refusal.specs.Checks.{first}
use Rattle.refusal.proofs.Tests.{or_off}
use Rattle.mesh.specs.Mesh.{mesh_refusal, max_nodes, max_panels}
use Rattle.mesh.specs.Columns.{viewed}
use Rattle.mesh.proofs.Refusals.{refused_by, done_passed, done_accepted}
use Rattle.scatter.proofs.Few.{few_cells}
use Rattle.shape_store.specs.Store.{Store, viewed_store}
use Rattle.shape_store.proofs.Places.{store_off}
use Rattle.shape_store.proofs.Found.{name_lacked, place_told}
use Rattle.shape_return.specs.Return.{shape_checks, shape_refusal}
use Rattle.shape_return.proofs.Numbers.{place-room}
use Rattle.shape_return.proofs.Named.{own_checks, read_there}
use Rattle.shape_return.proofs.check_return.Goals as goal

pub returns-in_err-check_mesh-clause-number : goal.returns-in_err-check_mesh-clause-number
unfolding shape_refusal
returns-in_err-check_mesh-clause-number c =
    let p = err_from_is_err_and c.from_residual.result c.from_residual.ensures.1 in rw (p.1, p.2) (refused_by _ _ _ _ _ c.in_err-check_mesh.ensures)

pub differs-requires : goal.differs-requires
differs-requires c = rw c.nnode-n.ensures (done_accepted max_nodes max_panels (viewed c.args.mesh.now) c.in_ok-check_mesh.ensures).limits.few_nodes

pub overflow_mul-n : goal.overflow_mul-n
overflow_mul-n c = rw c.nnode-n.ensures (omega (arith, few_cells (viewed c.args.mesh.now) c.in_ok-check_mesh.ensures))

pub returns-then-differs-size-clause-number : goal.returns-then-differs-size-clause-number
unfolding first shape_refusal
returns-then-differs-size-clause-number c =
    let a = c.args in
    rw (done_passed max_nodes max_panels (viewed a.mesh.now) (shape_checks (viewed a.mesh.now) (viewed_store a.store.now) a.name.now a.size) c.in_ok-check_mesh.ensures, ← c.nnode-n.ensures, ← c.differs.ensures, c.if-differs-size.true)

pub find_name-requires : goal.find_name-requires
find_name-requires c =
    let k = (store_off c.nnode-n.result (viewed_store c.args.store.now)).0 (sym c.differs.ensures ∙ (or_off _ _ c.if-differs-size.false).0) in
    (k.marks-long, k.names-long)

pub returns-in_default-clause-number : goal.returns-in_default-clause-number
unfolding first shape_refusal
returns-in_default-clause-number c =
    let a = c.args in
    let store : Store = viewed_store a.store.now in
    rw (done_passed max_nodes max_panels (viewed a.mesh.now) (shape_checks (viewed a.mesh.now) store a.name.now a.size) c.in_ok-check_mesh.ensures, ← c.nnode-n.ensures, ← c.differs.ensures, c.if-differs-size.false, name_lacked store a.name.now (sym c.find_name.ensures ∙ c.in_default.is))

pub shape_at-requires : goal.shape_at-requires
shape_at-requires c =
    let k = (store_off c.nnode-n.result (viewed_store c.args.store.now)).0 (sym c.differs.ensures ∙ (or_off _ _ c.if-differs-size.false).0) in
    let t = place_told _ c.in-Some.p (sym c.find_name.ensures ∙ c.in-Some.is) in
    record { x_room = place-room _ _ _ k.columns.first t.1; y_room = place-room _ _ _ k.columns.second t.1; z_room = place-room _ _ _ k.columns.third t.1 }

pub returns-in_err-check_mesh-2-clause-number : goal.returns-in_err-check_mesh-2-clause-number
returns-in_err-check_mesh-2-clause-number c =
    let a = c.args in
    let mesh = a.mesh.now in
    let store : Store = viewed_store a.store.now in
    let f = sym c.find_name.ensures ∙ c.in-Some.is in
    let own = own_checks (viewed mesh) store a.name.now a.size c.nnode-n.result c.in-Some.p c.differs.result c.in_ok-check_mesh.ensures c.nnode-n.ensures c.differs.ensures c.if-differs-size.false f in
    let there = read_there mesh.nodes.x.now mesh.nodes.y.now mesh.nodes.z.now mesh.panels store a.name.now c.nnode-n.result c.in-Some.p c.shape_at.result c.nnode-n.ensures (sym (place_told _ c.in-Some.p f).0) c.shape_at.ensures.columns in
    let p = err_from_is_err_and c.from_residual-in_err-check_mesh-2.result c.from_residual-in_err-check_mesh-2.ensures.1 in
    rw (p.1, p.2) (c.in_err-check_mesh-2.ensures ∙ ap (mesh_refusal max_nodes max_panels) there ∙ sym own)

pub returns-clause-number : goal.returns-clause-number
returns-clause-number c =
    let a = c.args in
    let mesh = a.mesh.now in
    let store : Store = viewed_store a.store.now in
    let f = sym c.find_name.ensures ∙ c.in-Some.is in
    let own = own_checks (viewed mesh) store a.name.now a.size c.nnode-n.result c.in-Some.p c.differs.result c.in_ok-check_mesh.ensures c.nnode-n.ensures c.differs.ensures c.if-differs-size.false f in
    let there = read_there mesh.nodes.x.now mesh.nodes.y.now mesh.nodes.z.now mesh.panels store a.name.now c.nnode-n.result c.in-Some.p c.shape_at.result c.nnode-n.ensures (sym (place_told _ c.in-Some.p f).0) c.shape_at.ensures.columns in
    c.in_ok-check_mesh-2.ensures ∙ ap (mesh_refusal max_nodes max_panels) there ∙ sym own
