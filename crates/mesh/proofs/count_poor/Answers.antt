-- `poor` counts the poor panels below `i`.
use mathlib.Core.Path.{◌≡◌, refl, sym, ap, ◌∙◌}
use mathlib.Core.Bool.{Bool}
use Prim.Native.Nat.{ℕ, ◌+◌}
use native.Mathlib.Omega.{arith}
use Rattle.lists.specs.Counting.{count_below}
use Rattle.lists.proofs.Counting.{count_on, count_off, count_bound}
use Rattle.mesh.specs.Columns.{viewed}
use Rattle.mesh.specs.Mesh.{ntri, triangle_nodes, is_poor, poor_panels}
use Rattle.mesh.proofs.count_poor.Goals as goal
use Rattle.mesh.proofs.count_poor.Goals.{then-is_poor, else-is_poor}

pub loop-i-init : goal.loop-i-init
unfolding count_below
loop-i-init c = refl

pub overflow_add-poor : goal.overflow_add-poor
overflow_add-poor c = omega (arith, count_bound (λ (k : ℕ). is_poor (triangle_nodes (viewed c.args.mesh.now) k)) c.loop-i.i)

pub loop-i-preserved : goal.loop-i-preserved
loop-i-preserved c =
    let l = c.loop-i in
    let t : ℕ → Bool = λ k. is_poor (triangle_nodes (viewed c.args.mesh.now) k) in
    let e = sym (c.is_poor.ensures ∙ ap is_poor c.triangle_nodes.ensures) in
    elim c.if-is_poor.branch [ then-is_poor w ↦ w.poor-is ∙ ap (λ (n : ℕ). n + 1) l.invariant ∙ sym (count_on t l.i (e ∙ w.if-is_poor.true)) | else-is_poor w ↦ w.poor-is ∙ l.invariant ∙ sym (count_off t l.i (e ∙ w.if-is_poor.false)) ]

pub returns : goal.returns
unfolding poor_panels
returns c =
    let l = c.loop-i in
    let e : l.i ≡ ntri (viewed c.args.mesh.now) = omega arith in
    rw e at l.invariant
