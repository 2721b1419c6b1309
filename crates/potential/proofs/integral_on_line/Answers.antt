-- The branch taken decides the definition's test; 1/0 computes to infinity.
use lib.Ieee.{div, of_bits}
use Rattle.potential.specs.Potential as Spec
use Rattle.potential.proofs.integral_on_line.Goals as goal

pub returns-then-start-end : goal.returns-then-start-end
unfolding Spec.integral_on_line
returns-then-start-end c =
    rw (c.if-start-end.true, ← c.abs.ensures, ← c.abs-then-start-end.ensures, ← c.ln.ensures, ← c.abs-then-start-end-2.ensures)

pub returns : goal.returns
unfolding Spec.integral_on_line div of_bits
returns c = rw c.if-start-end.false
