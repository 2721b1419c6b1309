-- After i turns the first i numbers of each column are those of the definition; at the end all are. Each of the three columns by the same laws of a column that is run to i.
use mathlib.Core.Path.{ap}
use mathlib.Core.List.{List}
use Prim.Native.Nat.{◌≤◌, ◌<◌}
use native.Mathlib.Omega.{arith}
use lib.Ieee.{Float}
use Rattle.binary64.specs.Binary64.{at}
use Rattle.lists.proofs.Runs.{front_further, filled_whole}
use Rattle.mesh.specs.Columns.{viewed}
use Rattle.mesh.specs.Mesh.{ntri}
use Rattle.boundary_element.specs.CurrentDensity.{current_densities}
use Rattle.boundary_element.proofs.current_density.fill_densities.Goals as goal

pub loop-i-preserved : goal.loop-i-preserved
loop-i-preserved c =
    let l = c.loop-i in
    let h : l.i < ntri (viewed c.args.mesh.now) = omega (arith, c.ntri-i-end.ensures, c.loop-i-test.true) in
    let e = c.store3.ensures in
    let d = c.panel_density.ensures in (
      front_further l.invariant.0 h e.first (ap (λ (v : List Float). at v 0) d),
      front_further l.invariant.1 h e.second (ap (λ (v : List Float). at v 1) d),
      front_further l.invariant.2 h e.third (ap (λ (v : List Float). at v 2) d),
    )

pub returns : goal.returns
unfolding current_densities
returns c =
    let l = c.loop-i in
    let e : ntri (viewed c.args.mesh.now) ≤ l.i = omega (arith, c.ntri-i-end.ensures, c.loop-i-test.false) in
    let d = c.requires.due in
    (filled_whole l.invariant.0 d.first e, filled_whole l.invariant.1 d.second e, filled_whole l.invariant.2 d.third e)
