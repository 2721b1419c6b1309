-- The call is done, or refused by a number that is not 0.
use Rattle.std.proofs.Common.{◌∙◌, arith}
use Rattle.std.specs.Float.{nan}
use borrow.Author.Tests.{ne_eqb}
use Rattle.ieee754.specs.Ieee754.{canonical_bits}
use Rattle.refusal.proofs.Outcome.{never_0}
use Rattle.replay_words.specs.Buffers.{kept, stored_by, same_by}
use Rattle.replay_words.proofs.Comparing.{zip-stored, zip-same}
use Rattle.replay_words.proofs.buffers.kept.Goals as goal

pub returns-in-Ok : goal.returns-in-Ok
unfolding kept stored_by canonical_bits
returns-in-Ok g c =
    let a = c.args in
    rw c.in-Ok.is (c.as_stored.ensures ∙ zip-stored canonical_bits nan a.v.now a.w.now a.k 2048 c.told-w (omega arith))

pub returns-in-Err : goal.returns-in-Err
unfolding kept same_by canonical_bits
returns-in-Err g c =
    let a = c.args in
    rw (c.in-Err.is, ne_eqb _ _ (never_0 c.in-Err.field-0)) (c.same.ensures ∙ zip-same canonical_bits nan a.v.now a.before.now (omega arith))
