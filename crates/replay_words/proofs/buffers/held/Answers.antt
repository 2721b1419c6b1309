-- The call is done, or refused by a number that is not 0.
use Rattle.std.proofs.Common.{◌∙◌, arith, eqb}
use borrow.Author.Tests.{ne_eqb}
use Rattle.refusal.proofs.Outcome.{never_0}
use Rattle.replay_words.specs.Buffers.{held_by, stored_by, untouched_by}
use Rattle.replay_words.proofs.Comparing.{zip-stored, all-below}
use Rattle.replay_words.proofs.buffers.held.Goals as goal

pub returns-in-Ok : goal.returns-in-Ok
unfolding held_by stored_by
returns-in-Ok g c =
    let a = c.args in
    let s = g.T.Stored in
    rw c.in-Ok.is (c.as_stored.ensures ∙ zip-stored s.word s.beyond a.v.now a.w.now a.k 2048 c.told-w (omega arith))

pub returns-in-Err : goal.returns-in-Err
unfolding held_by untouched_by
returns-in-Err g c =
    let s = g.T.Stored in
    rw (c.in-Err.is, ne_eqb _ _ (never_0 c.in-Err.field-0)) (c.untouched.ensures ∙ all-below (λ x. eqb (s.word x) s.pattern) s.beyond c.args.v.now)
