-- The copy is the marks of the case's store.
use Rattle.replay_shapes.proofs.drop_of.Goals as goal

pub returns : goal.returns
returns c = rw (← c.store_at-store.ensures.value, ← c.part_at-e.ensures.0, ← c.copied-marks.ensures) c.drop_into.ensures
