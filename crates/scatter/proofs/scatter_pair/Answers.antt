-- By cases on whether the pair is one panel with itself, as the definition is.
use Rattle.lists.specs.Counting.{triple}
use Rattle.scatter.specs.Entries.{block_entries}
use Rattle.scatter.specs.Renewal.{marked}
use Rattle.scatter.proofs.Steps.{both_added, one-added}
use Rattle.scatter.proofs.scatter_pair.Goals as goal

pub returns-then-not-same : goal.returns-then-not-same
returns-then-not-same c =
    let a = c.args in
    rw c.if-not-same.true
    (both_added (marked a.nodes.now.marks.now) a.nodes.now.count a.out.now (block_entries (triple a.s) (triple a.t) a.b 0) c.scatter_triangle_block.ensures c.scatter_triangle_block-then-not-same.ensures)

pub returns-else-not-same : goal.returns-else-not-same
returns-else-not-same c =
    let a = c.args in
    rw c.if-not-same.false
    (one-added (marked a.nodes.now.marks.now) a.nodes.now.count a.out.now (block_entries (triple a.s) (triple a.t) a.b 0) c.scatter_triangle_block.ensures)
