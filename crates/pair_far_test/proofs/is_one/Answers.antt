-- Clear of every corner, the first corner matches none, and so the panels are not one; else the whole test.
use Rattle.tri.specs.Mapping.{corner}
use Rattle.boundary_element.specs.Identity.{triangles_identical}
use Rattle.pair_far_test.proofs.Apart.{clear_corners}
use Rattle.pair_far_test.proofs.is_one.Goals as goal

pub returns-then-first-second : goal.returns-then-first-second
unfolding triangles_identical
returns-then-first-second c =
    rw (clear_corners (corner c.args.s 0) c.args.t (rw (← c.is_clear-first.ensures, ← c.is_clear-second.ensures, ← c.is_clear-third.ensures) c.if-first-second.true))

pub returns : goal.returns
returns c = c.triangles_identical.ensures
