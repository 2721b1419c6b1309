-- The parts of the case's store.
use Rattle.replay_shapes.proofs.Compared.{store_of_parts}
use Rattle.replay_shapes.proofs.store_at.Goals as goal

pub returns-clause-value : goal.returns-clause-value
returns-clause-value c =
    store_of_parts _ _ _ _ c.part.ensures.0 c.part-2.ensures.0 c.part-3.ensures.0 c.part-4.ensures.0 c.part-5.ensures.0
