-- What is printed stands at the front of the output.
use Rattle.replay_files.proofs.Printed.{printed}
use Rattle.replay_files.specs.Files.{prints}
use Rattle.replay_files.proofs.prints.Goals as goal

pub returns : goal.returns
unfolding prints
returns c = rw (printed _ _ _ _ c.density_text-k.ensures.put) at c.eq.ensures
