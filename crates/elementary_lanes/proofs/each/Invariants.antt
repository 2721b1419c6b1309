-- After i turns the first i are in place.
use Rattle.elementary_lanes.proofs.Made.{Made}
use Rattle.elementary_lanes.proofs.each.Given as goal

abbrev pub invariant-loop-i : goal.invariant-loop-i
invariant-loop-i g l = Made g.row.N (goal.F-post g l.f) l.out l.i
