-- The buffers are parts of the pattern.
use Rattle.replay_words.proofs.Lent.{four-within}
use borrow.Author.Rules.{rules}
use Rattle.replay_meshes.specs.Meshes.{quadrature_of}
use Rattle.replay_meshes.proofs.quadratures.quadrature_of.Goals as goal

pub quadrature_into-requires : goal.quadrature_into-requires
quadrature_into-requires c = search (rules, four-within)

pub returns : goal.returns
unfolding quadrature_of
returns c =
    rw (← c.cut_at-nx.ensures.0, ← c.cut_at-ny.ensures.0, ← c.cut_at-nz.ensures.0, ← c.cut_at-nw.ensures.0) c.quadrature_into.ensures
