-- The scan from above: at k and above every link is right, and `first` is the link of k.
use mathlib.Core.Path.{◌≡◌}
use mathlib.Core.Bool.{cond}
use Prim.Native.Nat.{◌-◌}
use native.Mathlib.Omega.{arith}
use Rattle.scatter.specs.Renewal.{marked}
use Rattle.lists.proofs.First.{past_end}
use Rattle.scatter.proofs.Links.{link_down}
use Rattle.scatter.proofs.link_marked.Goals as goal
use Rattle.scatter.proofs.link_marked.Goals.{then-set-k, else-set-k}

pub loop-k-init : goal.loop-k-init
loop-k-init c = let n = c.args.set.now.count in (past_end (marked c.args.set.now.marks.now) n n (omega arith), λ j l m. absurd (omega (arith, l, m)))

pub loop-k-preserved : goal.loop-k-preserved
loop-k-preserved c =
    let r = marked c.args.set.now.marks.now in
    let l = c.loop-k in
    let first = c.if-set-k.first in
    let e : first ≡ cond (r (l.k - 1)) (l.k - 1) l.first = elim c.if-set-k.branch [ then-set-k w ↦ rw w.if-set-k.true w.first-is | else-set-k w ↦ rw w.if-set-k.false w.first-is ] in
    link_down r c.args.set.now.count l.k l.links l.first first c.loop-k-test.true l.auto.k (omega arith) l.invariant.0 e l.invariant.1
