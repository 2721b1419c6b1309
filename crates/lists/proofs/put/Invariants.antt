-- After k turns the first k items are in place, the others as held.
use Rattle.std.proofs.Common.{◌+◌}
use lib.ListN.{take}
use Rattle.lists.specs.Putting.{Put}
use Rattle.lists.proofs.put.Given as goal

abbrev pub invariant-loop-k : goal.invariant-loop-k
invariant-loop-k g l = Put l.initial.out l.from (take l.k l.items) l.out (l.from + l.k)
