-- The interval is halved turn by turn: `Interval`.
use Rattle.square_root.proofs.Halving.{Interval}
use Rattle.square_root.proofs.near_root.Given as goal

abbrev pub invariant-loop : goal.invariant-loop
invariant-loop l = Interval l.m l.counter l.r l.w
