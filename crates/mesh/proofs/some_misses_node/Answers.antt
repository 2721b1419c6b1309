-- No panel below `i` has passed the test; the first that does decides, and none does at the end.
use mathlib.Core.Path.{◌≡◌, sym, ap, ◌∙◌}
use mathlib.Core.List.{List}
use Prim.Native.Nat.{ℕ}
use native.Mathlib.Omega.{arith}
use Rattle.lists.specs.Counting.{triple}
use Rattle.lists.proofs.Counting.{some_at, none_below}
use Rattle.mesh.specs.Columns.{viewed_panels}
use Rattle.mesh.specs.Mesh.{ntri, triangle_indices, misses_node}
use Rattle.mesh.proofs.some_misses_node.Goals as goal

pub returns-then-misses_node : goal.returns-then-misses_node
returns-then-misses_node c =
    let m = viewed_panels c.args.panels.now in
    let e = c.misses_node.ensures ∙ ap (λ (v : List ℕ). misses_node c.args.n (triple v)) c.triangle_indices.ensures in
    sym (some_at (λ (i : ℕ). misses_node c.args.n (triangle_indices m i)) (ntri m) c.loop-i.i (omega arith) (sym e ∙ c.if-misses_node.true))

pub returns : goal.returns
returns c =
    let m = viewed_panels c.args.panels.now in
    let l = c.loop-i in
    let e : l.i ≡ ntri m = omega arith in
    sym (none_below (λ (i : ℕ). misses_node c.args.n (triangle_indices m i)) (ntri m) (rw e at l.invariant))
