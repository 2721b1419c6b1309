-- Every column of a marked row is named; in another row the first marked column is.
use Prim.Native.Nat.{◌-◌}
use Rattle.scatter.specs.Renewal.{named, marked}
use Rattle.lists.proofs.First.{past_end}
use Rattle.scatter.proofs.Links.{row-marked}
use Rattle.scatter.proofs.LinkedSet.next_named.Goals as goal

pub returns-then-self-col : goal.returns-then-self-col
returns-then-self-col c = let a = c.args in past_end (named (marked a.self.now.set.marks.now) a.row) a.self.now.set.count a.col c.if-self-col.true

pub returns-then-self-row : goal.returns-then-self-row
returns-then-self-row c = let a = c.args in row-marked (marked a.self.now.set.marks.now) a.row a.col (a.self.now.set.count - a.col) c.if-self-row.true
