-- The corners are the columns', the other numbers those that were cached.
use Rattle.pair.specs.Pair.{panel_numbers}
use Rattle.cached_panels.proofs.cached_panel.Goals as goal

pub returns : goal.returns
unfolding panel_numbers
returns c =
    let p = c.requires in
    rw (p.all_cached.holds c.args.j p.j_in_bounds.0, c.triangle_nodes-corners.ensures)
