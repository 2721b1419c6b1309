-- The copies are the case's store.
use Rattle.std.proofs.Common.{◌∙◌}
use Rattle.replay_shapes.proofs.Compared.{stores_alike}
use Rattle.replay_shapes.proofs.save_of.Goals as goal

pub returns : goal.returns
returns c =
    let store = stores_alike c.copied-marks.ensures c.copied-names.ensures c.copied-x.ensures c.copied-y.ensures c.copied-z.ensures ∙ c.store_at-store.ensures.value in
    rw (← store, ← c.part_at-e.ensures.0) c.save_into.ensures
