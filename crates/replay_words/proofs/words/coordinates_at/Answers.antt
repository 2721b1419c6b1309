-- Nine reads.
use Rattle.std.proofs.Common.{rules}
use Rattle.replay_words.specs.Words.{coordinates_at}
use Rattle.replay_words.proofs.words.coordinates_at.Goals as goal

pub returns : goal.returns
unfolding coordinates_at
returns c = search rules
