-- The columns are parts of the pattern.
use Rattle.replay_words.proofs.Lent.{at_most}
use Rattle.replay_files.specs.Files.{read_file_of}
use borrow.Author.Rules.{rules}
use Rattle.replay_files.proofs.read_file_of.Goals as goal

pub read_panels_into-requires : goal.read_panels_into-requires
read_panels_into-requires c = search (rules, at_most)

pub returns : goal.returns
unfolding read_file_of
returns c =
    rw (← c.cut_at-nx.ensures.0, ← c.cut_at-ny.ensures.0, ← c.cut_at-nz.ensures.0) c.read_panels_into.ensures
