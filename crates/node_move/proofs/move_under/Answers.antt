-- A refusal leaves everything as it was; a move that is done is ready, and its own claim is that of the call.
use Rattle.std.proofs.lemmas.Result.{err_from_is_err_and}
use Rattle.binary64.specs.Binary64.{at}
use Rattle.refusal.proofs.Outcome.{never_0}
use Rattle.mesh.specs.Mesh.{Mesh}
use Rattle.coupling.specs.Block.{mutual_inductance_block}
use Rattle.inductance.specs.Matrix.{cell, matrix}
use Rattle.inductance.proofs.Mirror.{cell-turned}
use Rattle.node_move.specs.Move.{moved, on_panels}
use Rattle.node_move.proofs.Laws.{move_fresh}
use Rattle.node_move.proofs.Refused.{ready, matrix-long, due-under, claim_refused, claim_done}
use Rattle.node_move.proofs.move_under.Goals as goal

pub returns-in_err-check_place : goal.returns-in_err-check_place
returns-in_err-check_place c =
    let a = c.args in
    let m : Mesh = on_panels a.x.now a.y.now a.z.now a.panels.now in
    let f = mutual_inductance_block a.kind in
    let p = err_from_is_err_and c.from_residual.result c.from_residual.ensures.1 in
    rw (p.1, p.2) (claim_refused Unit (cell f) (matrix f) _ m a.out.now a.v (at a.place 0) (at a.place 1) (at a.place 2) (due-under m a.out.now a.v _ _ _) (matrix-long f m) _ (never_0 _) c.in_err-check_place.ensures)

pub move_accepted-count-requires : goal.move_accepted-count-requires
move_accepted-count-requires c =
    let a = c.args in
    ready (on_panels a.x.now a.y.now a.z.now a.panels.now) a.out.now a.v _ _ _ c.in_ok-check_place.ensures

pub returns : goal.returns
returns c =
    let a = c.args in
    let m : Mesh = on_panels a.x.now a.y.now a.z.now a.panels.now in
    let x = at a.place 0 in
    let y = at a.place 1 in
    let z = at a.place 2 in
    let f = mutual_inductance_block a.kind in
    claim_done Unit (cell f) (matrix f) _ m a.out.now a.v x y z (due-under m a.out.now a.v x y z) (matrix-long f m) _ _ _ (cell-turned f (moved m a.v x y z)) (move_fresh f m a.v x y z) c.in_ok-check_place.ensures c.move_accepted-count.ensures
