-- The cached numbers are those of the corners, so the test is is_far; then the shared sums are the far rule, or the kept record's integral is the near rule.
use mathlib.Core.Path.{◌≡◌}
use Rattle.coupling.specs.Coupling.{is_far, geometric_coupling}
use Rattle.panel_points.proofs.Places.{few}
use Rattle.pair.specs.Pair as Spec
use Rattle.pair.proofs.Cached.{cached_area, which_is, source_rows, source_points, source_uniform}
use Rattle.pair_far_rule.proofs.Symmetric.{symmetric}
use Rattle.pair.proofs.pair_coupling.Goals as goal

pub far_coupling-requires : goal.far_coupling-requires
far_coupling-requires c = rw c.quadrature_count.ensures (few _)

pub returns-then-is_far : goal.returns-then-is_far
unfolding geometric_coupling
returns-then-is_far c =
    let s = c.args.s in
    let t = c.args.t in
    let q = c.requires.known_source in
    let f : c.is_far.result ≡ is_far s.panel.corners t.corners =
    rw (c.is_far.ensures, c.distance_squared-apart.ensures, c.max-limit.ensures)
    (which_is s.panel t (unfold Spec.KnownSource in q.0) c.requires.known) in
    rw (
      ← f,
      c.if-is_far.true,
      c.far_coupling.ensures,
      c.points_by-points.ensures,
      c.quadrature_count.ensures,
      cached_area t c.requires.known,
      source_rows c.args.kind s q,
      source_points c.args.kind s q,
    ) (symmetric c.args.kind s.panel.corners t.corners)

pub returns : goal.returns
unfolding geometric_coupling
returns c =
    let s = c.args.s in
    let t = c.args.t in
    let q = c.requires.known_source in
    let f : c.is_far.result ≡ is_far s.panel.corners t.corners =
    rw (c.is_far.ensures, c.distance_squared-apart.ensures, c.max-limit.ensures)
    (which_is s.panel t (unfold Spec.KnownSource in q.0) c.requires.known) in
    rw (← f, c.if-is_far.false, c.triangle_geometric_coupling_exact_fixed.ensures, source_uniform c.args.kind s q)
