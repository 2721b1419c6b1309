-- After k turns the first k places hold the file's coordinates, the others what was lent.
use lib.ListN.{length}
use Rattle.lists.proofs.Runs.{RunTo}
use Rattle.panel_file.specs.PanelFile as Spec
use Rattle.panel_file.proofs.file.PanelFile.fill_coordinates.Given as goal

abbrev pub invariant-loop-k : goal.invariant-loop-k
invariant-loop-k l = RunTo l.initial.out 0 (length l.initial.out) (Spec.coordinate l.self.bytes.now l.axis) l.k l.out
