-- The two cases of the test.
use borrow.Author.Tests.{lt-ltb, le-ltb}
use Rattle.replay_words.specs.Words.{rule_of}
use Rattle.replay_words.proofs.words.rule_of.Goals as goal

pub returns-then-n-lt4294967296 : goal.returns-then-n-lt4294967296
unfolding rule_of
returns-then-n-lt4294967296 c = rw (lt-ltb _ _ c.if-n-lt4294967296.true)

pub returns : goal.returns
unfolding rule_of
returns c = rw (le-ltb _ _ c.if-n-lt4294967296.false)
