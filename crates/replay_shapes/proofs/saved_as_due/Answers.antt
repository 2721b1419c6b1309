-- The contracts of the parts.
use Rattle.replay_shapes.specs.Shapes.{saved_as_due}
use Rattle.replay_shapes.proofs.saved_as_due.Goals as goal

pub returns : goal.returns
unfolding saved_as_due
returns c =
    rw (← c.part-due_marks.ensures.0, ← c.part-due_names.ensures.0, ← c.part_at-p.ensures.0, ← c.same_refusal-number.ensures, ← c.kept_bytes-first.ensures, ← c.kept_bytes-second.ensures, ← c.kept_columns-columns.ensures)
