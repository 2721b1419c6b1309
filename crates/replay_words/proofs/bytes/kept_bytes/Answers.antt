-- The call is done, or refused by a number that is not 0.
use borrow.Author.Tests.{ne_eqb}
use Rattle.refusal.proofs.Outcome.{never_0}
use Rattle.replay_words.specs.Bytes.{kept_bytes}
use Rattle.replay_words.proofs.bytes.kept_bytes.Goals as goal

pub returns-in-Ok : goal.returns-in-Ok
unfolding kept_bytes
returns-in-Ok g c = rw c.in-Ok.is c.eq.ensures

pub returns-in-Err : goal.returns-in-Err
unfolding kept_bytes
returns-in-Err g c = rw (c.in-Err.is, ne_eqb _ _ (never_0 c.in-Err.field-0)) c.eq-in-Err.ensures
