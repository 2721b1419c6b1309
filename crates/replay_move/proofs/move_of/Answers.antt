-- The copies are the columns and the matrix of the case.
use Rattle.std.proofs.Common.{◌+◌, length, drop}
use Rattle.replay_move.proofs.Moved.{behind-mesh, results_inside}
use Rattle.replay_move.proofs.move_of.Goals as goal

pub move_into-requires : goal.move_into-requires
move_into-requires c =
    let a = c.args in
    let m = a.mesh.now in
    let l = results_inside a.g c.cut_at-n.result (length m.nodes.x.now) (length m.nodes.y.now) (length m.nodes.z.now) (drop (a.g + 1) a.f.now) c.requires c.cut_at-n.ensures.1 in
    record { z_bound = l; x_value = (c.copied-x.ensures, c.copied-y.ensures, c.copied-z.ensures, c.copied-c.ensures) }

pub returns : goal.returns
returns c =
    let a = c.args in
    let p = a.mesh.now.panels in
    behind-mesh a.rule a.f.now a.w.now a.g _ _ p.t0.now p.t1.now p.t2.now
    c.cut_at-n.ensures.0 c.vector-place.ensures c.copied-x.ensures c.copied-y.ensures c.copied-z.ensures c.copied-c.ensures c.move_into.ensures
