-- `out` is the sum of the first i rows.
use mathlib.Core.Path.{◌≡◌}
use Rattle.linkage.specs.Energy.{rows_added}
use Rattle.linkage.proofs.energy.add_rows.Given as goal

abbrev pub invariant-loop-i : goal.invariant-loop-i
invariant-loop-i l = l.out ≡ rows_added l.matrix l.s l.t l.i
