-- The coefficients still to come lead from p to P z, turn by turn.
use lib.Ieee.{add, binary64}
use Rattle.elementary.specs.Elementary as Spec
use Rattle.elementary.proofs.Horner.{Pending}
use Rattle.elementary.proofs.horner_sum.Given as goal

abbrev pub invariant-loop-k : goal.invariant-loop-k
invariant-loop-k l = Pending (add binary64) l.z l.k-items (Spec.P l.z) l.k-index l.p
