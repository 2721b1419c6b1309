-- The copies are what the case has, and keep their lengths; the claim of the call says what is due.
use Rattle.replay_columns.proofs.Leaving.{as_long}
use Rattle.replay_return.proofs.Returned.{compared, from-store, results_inside}
use Rattle.replay_return.proofs.return_into.Goals as goal

pub left_as_due-requires : goal.left_as_due-requires
left_as_due-requires c =
    let h = c.requires in
    let k = c.return_shape-outcome.auto in
    let l = as_long _ _ _ _ _ (results_inside _ _ _ _ _ _ c.part_at-e.ensures.1 h.q_bound.1) h.x_value k.x k.y k.z k.out in
    record { z_bound = l.0; as_long = l.1 }

pub returns : goal.returns
returns c =
    let a = c.args in
    let p = a.panels.now in
    let due = compared a.rule a.w.now _ p.t0.now p.t1.now p.t2.now c.requires.x_value c.return_shape-outcome.ensures c.left_as_due.ensures in
    from-store a.rule _ _ a.b.now a.f.now a.w.now a.q c.part_at-e.ensures.0 c.store_at-store.ensures.value c.name_at-name.ensures due

pub shape_of-x : goal.shape_of-x
shape_of-x c = c.return_shape-outcome.auto.x

pub shape_of-y : goal.shape_of-y
shape_of-y c = c.return_shape-outcome.auto.y

pub shape_of-z : goal.shape_of-z
shape_of-z c = c.return_shape-outcome.auto.z

pub shape_of-cells : goal.shape_of-cells
shape_of-cells c = c.return_shape-outcome.auto.out
