-- Three comparisons.
use Rattle.replay_words.specs.Words.{same_triangle}
use Rattle.replay_words.proofs.words.same_triangle.Goals as goal

pub returns : goal.returns
unfolding same_triangle
returns c = rw (← c.same_vector-c.ensures, ← c.same_vector-b.ensures, ← c.same_vector-a.ensures)
