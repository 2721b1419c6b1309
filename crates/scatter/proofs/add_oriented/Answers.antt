-- By cases on the flag, as the definition is.
use Rattle.scatter.specs.Entries.{oriented}
use Rattle.scatter.proofs.add_oriented.Goals as goal

pub returns-then-transposed : goal.returns-then-transposed
unfolding oriented
returns-then-transposed c = rw c.if-transposed.true c.add_named.ensures

pub returns-else-transposed : goal.returns-else-transposed
unfolding oriented
returns-else-transposed c = rw c.if-transposed.false c.add_named-else-transposed.ensures
