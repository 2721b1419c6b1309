-- No panel below `i` has passed the test; the first that does decides, and none does at the end.
use mathlib.Core.Path.{◌≡◌, sym, ap, ◌∙◌}
use Prim.Native.Nat.{ℕ}
use native.Mathlib.Omega.{arith}
use borrow.Author.Count.{below_more}
use Rattle.lists.proofs.Counting.{some_at, none_below}
use Rattle.mesh.specs.Columns.{viewed}
use Rattle.mesh.specs.Mesh.{ntri, triangle_nodes, is_zero_area}
use Rattle.mesh.proofs.some_zero_area.Goals as goal

pub returns-then-is_zero_area : goal.returns-then-is_zero_area
returns-then-is_zero_area c =
    let m = viewed c.args.mesh.now in
    let l = c.loop-i in
    let e = c.is_zero_area.ensures ∙ ap is_zero_area c.triangle_nodes.ensures in
    sym (some_at (λ (i : ℕ). is_zero_area (triangle_nodes m i)) (ntri m) l.i (omega arith) (sym e ∙ c.if-is_zero_area.true))

pub loop-i-preserved : goal.loop-i-preserved
loop-i-preserved c =
    let e = c.is_zero_area.ensures ∙ ap is_zero_area c.triangle_nodes.ensures in below_more _ _ c.loop-i.invariant (sym e ∙ c.if-is_zero_area.false)

pub returns : goal.returns
returns c =
    let m = viewed c.args.mesh.now in
    let l = c.loop-i in
    let e : l.i ≡ ntri m = omega arith in
    sym (none_below (λ (i : ℕ). is_zero_area (triangle_nodes m i)) (ntri m) (rw e at l.invariant))
