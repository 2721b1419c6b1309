-- The rows above `row` have their copies; `copy_turn` says this of a row more.
use Rattle.scatter.specs.Renewal.{marked}
use Rattle.scatter.specs.Mirror.{mirrored, cells_of}
use Rattle.scatter.proofs.Rows.{RowsRenewed}
use Rattle.scatter.proofs.copy_below.Given as goal

abbrev pub invariant-loop-row : goal.invariant-loop-row
invariant-loop-row l = RowsRenewed (marked l.nodes.marks.now) (mirrored (cells_of l.nodes.count l.initial.out)) l.nodes.count l.initial.out l.row l.out
