-- `row_next` says where the scan of the row stands after each step to the next named column.
use Prim.Native.Nat.{◌-◌}
use Rattle.binary64.specs.Binary64.{plus_zero}
use Rattle.scatter.specs.Renewal.{marked}
use Rattle.scatter.proofs.Rows.{RowRenewed}
use Rattle.scatter.proofs.clear_row.Given as goal

abbrev pub invariant-loop-col : goal.invariant-loop-col
invariant-loop-col l = RowRenewed (marked l.nodes.set.marks.now) (λ a b. plus_zero) l.nodes.set.count l.initial.out l.row l.out l.col

abbrev pub decreases-loop-col : goal.decreases-loop-col
decreases-loop-col l = l.nodes.set.count - l.col
