-- The rows above `row` have their copies; `copy_turn` says this of a row more.
use Rattle.scatter.proofs.Rows.{rows_done, copy_turn}
use Rattle.scatter.proofs.copy_below.Goals as goal

pub loop-row-preserved : goal.loop-row-preserved
loop-row-preserved c =
    copy_turn c.loop-row.invariant c.loop-row-test.true c.copy_row_below.ensures

pub returns : goal.returns
returns c = rows_done c.loop-row.invariant c.loop-row-test.false
