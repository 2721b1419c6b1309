-- The function's result is f's.
use Rattle.worked_examples.specs.Gaps.{row_gap}
use Rattle.worked_examples.proofs.gaps.row_gap.Goals as goal

pub returns : goal.returns
unfolding row_gap
returns g c = rw (c.gap.ensures, c.requires.1.1 _ _ _ c.function.ensures)
