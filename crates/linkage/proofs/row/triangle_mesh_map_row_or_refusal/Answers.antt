-- Behind the checks the row ends within the map.
use borrow.Author.Tests.{lt-leb}
use lib.ListN.{length}
use Rattle.refusal.specs.Checks.{first}
use Rattle.linkage.specs.Row.{map_row_refusal}
use Rattle.linkage.proofs.Sizes.{map-row-sized}
use Rattle.linkage.proofs.row.triangle_mesh_map_row_or_refusal.Goals as goal

pub stretch-requires : goal.stretch-requires
unfolding map_row_refusal first
stretch-requires c =
    let a = c.args in
    map-row-sized (length a.map.now) a.sources a.node
    (rw (← c.lacks_sources.ensures, c.if-lacks_sources.false, ← c.broken_rows.ensures, c.if-broken_rows.false, ← c.row_count.ensures, lt-leb _ _ c.if-row_count-node.false))
