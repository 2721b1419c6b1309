-- The number's bits, as a word.
use Rattle.replay_words.specs.Words.{same_number}
use Rattle.replay_words.proofs.words.same_number.Goals as goal

pub returns : goal.returns
unfolding same_number
returns c = rw (← c.canonical_bits.ensures) c.same_word.ensures
