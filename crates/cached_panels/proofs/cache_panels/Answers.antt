-- The numbers of the panels below j are cached.
use mathlib.Core.Path.{refl, ap, ◌∙◌}
use native.Mathlib.Omega.{arith}
use Rattle.mesh.specs.Columns.{viewed}
use Rattle.pair.specs.Pair.{panel_numbers}
use Rattle.cached_panels.specs.Cache.{besides_corners}
use Rattle.cached_panels.proofs.Caching.{cache_more}
use Rattle.cached_panels.proofs.cache_panels.Goals as goal

pub loop-j-preserved : goal.loop-j-preserved
loop-j-preserved c =
    let l = c.loop-j in
    cache_more (viewed c.args.mesh.now) l.cache _ _ l.j (omega arith) (ap besides_corners (c.panel_numbers-area.ensures ∙ ap panel_numbers c.triangle_nodes.ensures)) refl l.invariant
