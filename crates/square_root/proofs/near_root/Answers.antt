-- The interval is halved turn by turn: `Interval`.
use Rattle.std.proofs.Common.{ℕ, ◌+◌, ◌/◌, ◌<◌, sym, subst, arith}
use Rattle.square_root.proofs.Halving.{Interval, lower-half, upper-half, last}
use Rattle.square_root.proofs.near_root.Goals as goal
use Rattle.square_root.proofs.near_root.Goals.{then-high_pronic-m, else-high_pronic-m}

pub loop-preserved : goal.loop-preserved
loop-preserved c =
    let l = c.loop in
    let m = c.args.m in
    let i : l.counter < 52 = omega arith in
    elim c.if-high_pronic-m.branch [
      | then-high_pronic-m w ↦ subst (λ (x : ℕ). Interval m (l.counter + 1) x (l.w / 2)) (sym w.r-is) (upper-half m l.counter l.r l.w l.invariant i (omega arith))
      | else-high_pronic-m w ↦ subst (λ (x : ℕ). Interval m (l.counter + 1) x (l.w / 2)) (sym w.r-is) (lower-half m l.counter l.r l.w l.invariant i (omega arith))
    ]

pub returns-clause-near_root : goal.returns-clause-near_root
returns-clause-near_root c =
    let l = c.loop in
    (last c.args.m l.counter l.r l.w l.invariant (omega arith)).1
