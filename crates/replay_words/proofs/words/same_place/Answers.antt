-- Three comparisons.
use Rattle.replay_words.specs.Words.{same_place}
use Rattle.replay_words.proofs.words.same_place.Goals as goal

pub returns : goal.returns
unfolding same_place
returns c = rw (← c.same_word-a.ensures, ← c.same_word-b.ensures, ← c.same_word-c.ensures)
