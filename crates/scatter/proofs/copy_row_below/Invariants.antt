-- `row_next` says where the scan of the row stands after each step to the next named column; `copy_due`, that the cell copied is as it was; `copied_kept`, that the row is done at the diagonal.
use Prim.Native.Nat.{◌-◌}
use Rattle.scatter.specs.Renewal.{marked}
use Rattle.scatter.specs.Mirror.{mirrored, cells_of}
use Rattle.scatter.proofs.Rows.{RowRenewed}
use Rattle.scatter.proofs.copy_row_below.Given as goal

abbrev pub invariant-loop-a : goal.invariant-loop-a
invariant-loop-a l = RowRenewed (marked l.nodes.set.marks.now) (mirrored (cells_of l.nodes.set.count l.initial.out)) l.nodes.set.count l.initial.out l.b l.out l.a

abbrev pub decreases-loop-a : goal.decreases-loop-a
decreases-loop-a l = l.nodes.set.count - l.a
