-- The coefficients still to come lead from p to Q z, turn by turn.
use lib.Ieee.{sub, binary64}
use Rattle.elementary.specs.Elementary as Spec
use Rattle.elementary.proofs.Horner.{Pending}
use Rattle.elementary.proofs.horner_difference.Given as goal

abbrev pub invariant-loop-k : goal.invariant-loop-k
invariant-loop-k l = Pending (sub binary64) l.z l.k-items (Spec.Q l.z) l.k-index l.p
