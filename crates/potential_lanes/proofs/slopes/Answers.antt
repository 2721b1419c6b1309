-- After i turns both quotients of the first i points are in place; the two places that a turn writes are seven apart.
use mathlib.Core.Path.{refl}
use native.Mathlib.Omega.{arith}
use borrow.Author.Rules.{rules}
use Rattle.potential_lanes.proofs.Ends.{two_turn}
use Rattle.potential_lanes.proofs.slopes.Goals as goal

pub loop-i-init : goal.loop-i-init
loop-i-init c = (refl, λ i l. absurd (omega arith))

pub loop-i-preserved : goal.loop-i-preserved
loop-i-preserved c =
    let l = c.loop-i in
    (search rules, two_turn 14 l.out l.i 7 _ _ l.invariant.0 (omega arith) (omega arith) l.invariant.1 refl refl)

pub returns : goal.returns
returns c i m = c.loop-i.invariant.1 i (omega arith)
