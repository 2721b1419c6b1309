-- The three exits are the definition's cases.
use Rattle.std.proofs.Common.{le-ltb, lt-ltb}
use Rattle.replay_cases.specs.Case.{kind_of}
use Rattle.replay_cases.proofs.input.behind.Goals as goal

pub returns-then-kind-gt127-clause-value : goal.returns-then-kind-gt127-clause-value
unfolding kind_of
returns-then-kind-gt127-clause-value c = rw (← c.kind-kind.ensures, lt-ltb _ _ c.if-kind-gt127.true)

pub returns-in_err-size-clause-value : goal.returns-in_err-size-clause-value
unfolding kind_of
returns-in_err-size-clause-value c = rw (← c.kind-kind.ensures, le-ltb _ _ c.if-kind-gt127.false, ← c.size.ensures.value, c.in_err-size.was, c.from_residual.ensures)

pub returns-clause-value : goal.returns-clause-value
unfolding kind_of
returns-clause-value c = rw (← c.kind-kind.ensures, le-ltb _ _ c.if-kind-gt127.false, ← c.size.ensures.value, c.in_ok-size.was)
