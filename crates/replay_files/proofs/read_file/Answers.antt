-- The bytes are a part of the case's.
use Rattle.replay_files.specs.Files.{read_file}
use Rattle.replay_files.proofs.read_file.Goals as goal

pub returns : goal.returns
unfolding read_file
returns c = rw (← c.cut_at-n.ensures.0, ← c.bytes_end-q.ensures.0) c.read_file_of.ensures
