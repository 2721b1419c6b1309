-- The rows above `row` are cleared; `clear_turn` says this of a row more.
use Rattle.binary64.specs.Binary64.{plus_zero}
use Rattle.scatter.specs.Renewal.{marked}
use Rattle.scatter.proofs.Rows.{RowsRenewed}
use Rattle.scatter.proofs.clear_named.Given as goal

abbrev pub invariant-loop-row : goal.invariant-loop-row
invariant-loop-row l = RowsRenewed (marked l.nodes.marks.now) (λ a b. plus_zero) l.nodes.count l.initial.out l.row l.out
