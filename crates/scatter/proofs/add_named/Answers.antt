-- The test is `added`: the one addition is made, or none is.
use Rattle.scatter.proofs.Steps.{one_made, none_made}
use Rattle.scatter.proofs.add_named.Goals as goal

pub returns-then-nodes-row : goal.returns-then-nodes-row
returns-then-nodes-row c =
    let a = c.args in
    one_made a.nodes.now.marks.now a.nodes.now.count a.out.now a.row a.col a.v c.if-nodes-row.true c.add_at.ensures

pub returns-else-nodes-row : goal.returns-else-nodes-row
returns-else-nodes-row c =
    let a = c.args in
    none_made a.nodes.now.marks.now a.nodes.now.count a.out.now a.row a.col a.v c.if-nodes-row.false
