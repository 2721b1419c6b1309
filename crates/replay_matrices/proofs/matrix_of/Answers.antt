-- The buffers are parts of the pattern.
use Rattle.replay_words.proofs.Lent.{one-within}
use borrow.Author.Rules.{rules}
use Rattle.replay_matrices.specs.Matrices.{matrix_of}
use Rattle.replay_matrices.proofs.matrix_of.Goals as goal

pub matrix_into-requires : goal.matrix_into-requires
matrix_into-requires c = search (rules, one-within)

pub returns : goal.returns
unfolding matrix_of
returns c =
    rw (← c.cut_at-n.ensures.0) c.matrix_into.ensures
