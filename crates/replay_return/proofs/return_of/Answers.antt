-- The copies are the columns and the matrix of the case; the store begins behind them.
use Rattle.std.proofs.Common.{◌+◌, length, drop}
use Rattle.replay_return.proofs.Returned.{behind-mesh, places, store_inside}
use Rattle.replay_return.proofs.return_of.Goals as goal

pub return_into-requires : goal.return_into-requires
return_into-requires c =
    let a = c.args in
    let m = a.mesh.now in
    let l = store_inside a.g c.cut_at.result (length m.nodes.x.now) (length m.nodes.y.now) (length m.nodes.z.now) (drop (a.g + 1) a.f.now) c.requires c.cut_at.ensures.1 in
    record { q_bound = ((places a.g c.cut_at.result c.requires.0 c.cut_at.ensures.1).store, l); x_value = (c.copied-x.ensures, c.copied-y.ensures, c.copied-z.ensures, c.copied-c.ensures) }

pub returns : goal.returns
returns c =
    let a = c.args in
    let p = a.mesh.now.panels in
    behind-mesh a.rule a.b.now a.f.now a.w.now a.g _ p.t0.now p.t1.now p.t2.now
    c.cut_at.ensures.0 c.copied-x.ensures c.copied-y.ensures c.copied-z.ensures c.copied-c.ensures c.return_into.ensures
