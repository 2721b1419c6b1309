-- A part of the call's result.
use Rattle.worked_examples.proofs.sheet.split_point.Goals as goal

pub returns : goal.returns
returns c = rw c.longest_edge_bisection-halves.ensures
