-- Three reads.
use Rattle.std.proofs.Common.{rules}
use Rattle.replay_words.specs.Words.{vector_at}
use Rattle.replay_words.proofs.words.vector.Goals as goal

pub returns : goal.returns
unfolding vector_at
returns c = search rules
