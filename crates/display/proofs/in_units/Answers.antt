-- The product with 10^9, word by word: its upper word twice, and one more where its lower word is not 0.
use native.Mathlib.Omega.{arith}
use Rattle.display.proofs.Rounding.{units-exact, units_odd}
use Rattle.display.proofs.in_units.Goals as goal

pub returns-then-low-eq0 : goal.returns-then-low-eq0
returns-then-low-eq0 c = record { jam = units-exact c.args.t c.if-low-eq0.true; upper_bound = omega arith }

pub returns-else-low-eq0 : goal.returns-else-low-eq0
returns-else-low-eq0 c = record { jam = units_odd c.args.t c.if-low-eq0.false; upper_bound = omega arith }
