-- `row_next` says where the scan of the row stands after each step to the next named column; `copy_due`, that the cell copied is as it was; `copied_kept`, that the row is done at the diagonal.
use mathlib.Core.Path.{refl}
use native.Mathlib.Nat.{lt_trans}
use native.Mathlib.Omega.{arith}
use Rattle.scatter.specs.Renewal.{marked}
use Rattle.lists.proofs.First.{next_above}
use Rattle.scatter.proofs.Rows.{row_begun, row_next, row_done, copied_kept, copy_due}
use Rattle.scatter.proofs.copy_row_below.Goals as goal

pub loop-a-init : goal.loop-a-init
loop-a-init c = let w = c.requires in row_begun w.sized.cells w.b_lt_n.0 c.next_named-a.ensures

pub loop-a-smaller : goal.loop-a-smaller
loop-a-smaller c =
    let w = c.requires in
    omega (arith, c.loop-a-test.true, w.b_lt_n.0, next_above _ _ _ c.next_named-a-in-loop-a.ensures)

pub loop-a-preserved : goal.loop-a-preserved
loop-a-preserved c =
    let w = c.requires in
    let l = c.loop-a in
    let h = c.loop-a-test.true in
    row_next l.invariant (lt_trans h w.b_lt_n.0) refl (copy_due l.invariant w.b_lt_n.0 h) c.next_named-a-in-loop-a.ensures

pub returns : goal.returns
returns c =
    let a = c.args in
    row_done c.loop-a.invariant (λ k l m. copied_kept (marked a.nodes.now.set.marks.now) a.nodes.now.set.count a.out.now a.b k (omega (arith, c.loop-a-test.false, l)))
