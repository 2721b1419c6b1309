-- `row_next` says where the scan of the row stands after each step to the next named column.
use mathlib.Core.Path.{refl}
use native.Mathlib.Omega.{arith}
use Rattle.lists.proofs.First.{next_above}
use Rattle.scatter.proofs.Rows.{row_begun, row_next}
use Rattle.scatter.proofs.clear_row.Goals as goal

pub loop-col-init : goal.loop-col-init
loop-col-init c = let w = c.requires in row_begun w.sized.cells w.row_lt_n.0 c.next_named-col.ensures

pub loop-col-smaller : goal.loop-col-smaller
loop-col-smaller c = omega (arith, c.loop-col-test.true, next_above _ _ _ c.next_named-col-in-loop-col.ensures)

pub loop-col-preserved : goal.loop-col-preserved
loop-col-preserved c =
    let l = c.loop-col in
    let h = c.loop-col-test.true in
    row_next l.invariant h refl (rw (l.invariant.at_named h)) c.next_named-col-in-loop-col.ensures
