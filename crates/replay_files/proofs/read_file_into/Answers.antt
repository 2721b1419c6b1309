-- The call's number and what it leaves in its columns are the ones due.
use Rattle.replay_files.specs.Files.{held_columns}
use Rattle.replay_files.proofs.Compared.{compared}
use Rattle.replay_files.proofs.read_file_into.Goals as goal

pub returns : goal.returns
unfolding held_columns
returns c =
    let a = c.args in
    compared a.bytes.now a.w.now a.k c.read_panel_file-outcome.ensures (rw (← c.same_refusal-a.ensures, ← c.held_three-b.ensures, ← c.held_three-c.ensures))
