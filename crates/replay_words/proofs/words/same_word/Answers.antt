-- One test.
use Rattle.std.proofs.Common.{rules}
use Rattle.replay_words.specs.Words.{same_word}
use Rattle.replay_words.proofs.words.same_word.Goals as goal

pub returns : goal.returns
unfolding same_word
returns c = search rules
