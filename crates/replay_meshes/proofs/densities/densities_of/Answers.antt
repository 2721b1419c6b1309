-- The buffers are parts of the pattern.
use Rattle.replay_words.proofs.Lent.{three-within}
use borrow.Author.Rules.{rules}
use Rattle.replay_meshes.specs.Meshes.{densities_of}
use Rattle.replay_meshes.proofs.densities.densities_of.Goals as goal

pub densities_into-requires : goal.densities_into-requires
densities_into-requires c = search (rules, three-within)

pub returns : goal.returns
unfolding densities_of
returns c =
    rw (← c.column_end-h.ensures.0, ← c.cut_at-nx.ensures.0, ← c.cut_at-ny.ensures.0, ← c.cut_at-nz.ensures.0) c.densities_into.ensures
