-- The columns are parts of the pattern.
use Rattle.replay_words.proofs.Lent.{at_most}
use Rattle.replay_files.specs.Files.{read_panels_into}
use borrow.Author.Rules.{rules}
use Rattle.replay_files.proofs.read_panels_into.Goals as goal

pub read_file_into-requires : goal.read_file_into-requires
read_file_into-requires c = search (rules, at_most)

pub returns : goal.returns
unfolding read_panels_into
returns c =
    rw (← c.cut_at-n0.ensures.0, ← c.cut_at-n1.ensures.0, ← c.cut_at-n2.ensures.0) c.read_file_into.ensures
