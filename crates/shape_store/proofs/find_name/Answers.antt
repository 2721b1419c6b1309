-- No place below `p` holds the name; the first that does decides, and none does at the end.
use mathlib.Core.List.{[]}
use native.Mathlib.Omega.{arith}
use Rattle.shape_store.specs.Store.{Store, store_of, places, holds_name}
use Rattle.lists.proofs.First.{first_is, none_is}
use Rattle.shape_store.proofs.Found.{place_is, place_none}
use Rattle.shape_store.proofs.find_name.Goals as goal

pub returns-then-marks-p : goal.returns-then-marks-p
returns-then-marks-p c =
    let lent : Store = store_of c.args.marks.now c.args.names.now [] [] [] in
    let l = c.loop-p in
    place_is _ l.p (first_is (holds_name lent c.args.name.now) places l.p c.loop-p-test.true l.invariant (rw (← c.same_name.ensures) c.if-marks-p.true)) c.loop-p-test.true

pub returns : goal.returns
returns c =
    let lent : Store = store_of c.args.marks.now c.args.names.now [] [] [] in
    let l = c.loop-p in
    place_none _ (none_is (holds_name lent c.args.name.now) places (λ k h. l.invariant k (omega (arith, h, c.loop-p-test.false))))
