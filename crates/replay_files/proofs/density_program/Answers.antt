-- The bytes are parts of the case's.
use Rattle.replay_files.specs.Files.{density_program}
use Rattle.replay_files.proofs.density_program.Goals as goal

pub returns : goal.returns
unfolding density_program
returns c =
    rw (← c.cut_at-n.ensures.0, ← c.bytes_end-q.ensures.0, ← c.cut_at-m.ensures.0) c.prints.ensures
