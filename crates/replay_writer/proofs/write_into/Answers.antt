-- The call's number and what it leaves in its output are the ones due.
use Rattle.replay_writer.specs.Writer.{write_into}
use Rattle.replay_writer.proofs.write_into.Goals as goal

pub returns : goal.returns
unfolding write_into
returns c =
    let e = c.write_panel_file-outcome.ensures in
    rw (← e.number, ← e.bytes, ← c.same_refusal-a.ensures, ← c.held_bytes-b.ensures)
