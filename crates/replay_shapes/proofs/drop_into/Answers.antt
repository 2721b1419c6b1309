-- The copy is what the case has; the claim of the call says what is due.
use Rattle.replay_shapes.proofs.Compared.{drop_compared}
use Rattle.replay_shapes.proofs.drop_into.Goals as goal

pub returns : goal.returns
returns c =
    let a = c.args in
    drop_compared a.b.now a.w.now a.before.now.marks.now a.e c.name_at-name.ensures c.requires.1 c.drop_shape-outcome.ensures c.dropped_as_due.ensures
