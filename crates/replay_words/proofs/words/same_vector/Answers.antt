-- Three comparisons.
use Rattle.replay_words.specs.Words.{same_vector}
use Rattle.replay_words.proofs.words.same_vector.Goals as goal

pub returns : goal.returns
unfolding same_vector
returns c = rw (← c.same_number-c.ensures, ← c.same_number-b.ensures, ← c.same_number-a.ensures)
