-- Three calls, one after the other, in one orientation.
use mathlib.Core.List.{[], ◌∷◌}
use lib.ListN.{get_or}
use Rattle.binary64.specs.Binary64.{at}
use Rattle.scatter.specs.Entries.{entry, row_entries}
use Rattle.scatter.specs.Renewal.{marked}
use Rattle.scatter.proofs.Steps.{three_steps}
use Rattle.scatter.proofs.add_row.Goals as goal

pub returns : goal.returns
unfolding row_entries
returns c =
    let a = c.args in
    three_steps (marked a.nodes.now.marks.now) a.nodes.now.count a.transposed a.out.now (entry a.row (get_or a.t 0 0) (at a.v 0) ∷ []) (entry a.row (get_or a.t 1 0) (at a.v 1) ∷ []) (entry a.row (get_or a.t 2 0) (at a.v 2) ∷ [])
    c.add_oriented.ensures
    c.add_oriented-2.ensures
    c.add_oriented-3.ensures
