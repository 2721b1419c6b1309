-- The copies are what the case has, and keep their lengths; the claim of the call says what is due.
use Rattle.replay_shapes.proofs.Compared.{save_compared, as_long}
use Rattle.replay_shapes.proofs.save_into.Goals as goal

pub returns : goal.returns
returns c =
    let a = c.args in
    save_compared a.b.now a.w.now a.e c.name_at-name.ensures c.requires.z_value c.save_shape-outcome.ensures c.lent-now.ensures c.saved_as_due.ensures
