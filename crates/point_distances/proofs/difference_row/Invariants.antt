-- After j turns the first j differences from index start are in place.
use Prim.Native.Nat.{ℕ}
use Rattle.binary64.specs.Binary64.{◌⊖◌, at}
use Rattle.lists.proofs.Runs.{RunTo}
use Rattle.point_distances.proofs.difference_row.Given as goal

abbrev pub invariant-loop-j : goal.invariant-loop-j
invariant-loop-j l = RunTo l.initial.out l.start l.n (λ (i : ℕ). l.q ⊖ at l.x i) l.j l.out
