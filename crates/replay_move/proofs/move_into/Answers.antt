-- The copies are what the case has, and keep their lengths; the claim of the call says what is due.
use Rattle.replay_columns.proofs.Leaving.{as_long}
use Rattle.replay_move.proofs.Moved.{compared}
use Rattle.replay_move.proofs.move_into.Goals as goal

pub left_as_due-requires : goal.left_as_due-requires
left_as_due-requires c =
    let h = c.requires in
    let k = c.move_node-outcome.auto in
    let l = as_long _ _ _ _ _ h.z_bound h.x_value k.x k.y k.z k.out in
    record { z_bound = l.0; as_long = l.1 }

pub returns : goal.returns
returns c =
    let a = c.args in
    compared a.rule a.place a.w.now a.k a.panels.now.t0.now a.panels.now.t1.now a.panels.now.t2.now c.requires.x_value c.move_node-outcome.ensures c.left_as_due.ensures

pub shape_of-x : goal.shape_of-x
shape_of-x c = c.move_node-outcome.auto.x

pub shape_of-y : goal.shape_of-y
shape_of-y c = c.move_node-outcome.auto.y

pub shape_of-z : goal.shape_of-z
shape_of-z c = c.move_node-outcome.auto.z

pub shape_of-cells : goal.shape_of-cells
shape_of-cells c = c.move_node-outcome.auto.out
