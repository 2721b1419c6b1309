-- Three rows, one after the other, in one orientation.
use lib.ListN.{get_or}
use Rattle.lists.specs.Counting.{triple}
use Rattle.scatter.specs.Entries.{row_entries, block_entries}
use Rattle.scatter.specs.Renewal.{marked}
use Rattle.scatter.proofs.Steps.{three_steps}
use Rattle.scatter.proofs.scatter_triangle_block.Goals as goal

pub returns : goal.returns
unfolding block_entries row_entries
returns c =
    let a = c.args in
    three_steps (marked a.nodes.now.marks.now) a.nodes.now.count a.transposed a.out.now (row_entries (get_or a.s 0 0) (triple a.t) a.b 0) (row_entries (get_or a.s 1 0) (triple a.t) a.b 3) (row_entries (get_or a.s 2 0) (triple a.t) a.b 6)
    c.add_row.ensures
    c.add_row-2.ensures
    c.add_row-3.ensures
