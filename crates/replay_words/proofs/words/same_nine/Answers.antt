-- Three comparisons.
use Rattle.replay_words.specs.Words.{same_nine}
use Rattle.replay_words.proofs.words.same_nine.Goals as goal

pub returns : goal.returns
unfolding same_nine
returns c = rw (← c.same_vector-a.ensures, ← c.same_vector-b.ensures, ← c.same_vector-c.ensures)
