-- The three functions.
use Rattle.elementary.specs.Elementary.{ln, asinh, atan2}
use Rattle.worked_examples.proofs.elementary_functions.Given as goal

abbrev pub ghost-worst : goal.ghost-worst
ghost-worst a = λ x y. ln x

abbrev pub ghost-worst-2 : goal.ghost-worst-2
ghost-worst-2 a = λ x y. asinh x

abbrev pub ghost-worst-3 : goal.ghost-worst-3
ghost-worst-3 a = atan2
