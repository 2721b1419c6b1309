-- The rows above `row` are cleared; `clear_turn` says this of a row more.
use Rattle.scatter.proofs.Rows.{rows_done, clear_turn}
use Rattle.scatter.proofs.clear_named.Goals as goal

pub loop-row-preserved : goal.loop-row-preserved
loop-row-preserved c =
    clear_turn c.loop-row.invariant c.loop-row-test.true c.clear_row.ensures

pub returns : goal.returns
returns c = rows_done c.loop-row.invariant c.loop-row-test.false
