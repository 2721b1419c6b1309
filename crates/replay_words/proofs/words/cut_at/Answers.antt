-- The smaller of the two.
use Rattle.std.proofs.Common.{arith}
use Rattle.std.proofs.lemmas.Bool.Decides.{nat_tests}
use Rattle.replay_words.specs.Words.{cut_at}
use Rattle.replay_words.proofs.words.cut_at.Goals as goal

pub returns : goal.returns
unfolding cut_at
returns c = (grind (arith, nat_tests), omega arith)
