-- Three vectors.
use Rattle.replay_words.specs.Words.{triangle_at}
use Rattle.replay_words.proofs.words.triangle.Goals as goal

pub returns : goal.returns
unfolding triangle_at
returns c = rw (← c.vector-a.ensures, ← c.vector-b.ensures, ← c.vector-c.ensures)
