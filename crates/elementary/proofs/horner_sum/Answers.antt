-- The coefficients still to come lead from p to P z, turn by turn.
use borrow.Author.Rules.{rules}
use mathlib.Core.Path.{refl}
use native.Mathlib.Omega.{arith}
use lib.Ieee.{add, div, of_int, of_bits, binary64}
use Rattle.elementary.specs.Elementary as Spec
use Rattle.elementary.proofs.Horner.{one_more, none_left}
use Rattle.elementary.proofs.horner_sum.Goals as goal

pub loop-k-init : goal.loop-k-init
unfolding Spec.P Spec.reciprocals Spec.reciprocal div of_int of_bits
loop-k-init c = (search rules, refl)

pub loop-k-preserved : goal.loop-k-preserved
loop-k-preserved c = let l = c.loop-k in one_more (add binary64) _ _ _ l.k-index l.p (omega arith) l.invariant

pub returns : goal.returns
returns c = let l = c.loop-k in none_left (add binary64) _ _ _ l.k-index l.p (omega arith) l.invariant
