-- After i turns the first i places hold the file's indices, the others what was lent.
use lib.ListN.{length}
use Rattle.lists.proofs.Runs.{RunTo}
use Rattle.panel_file.specs.PanelFile as Spec
use Rattle.panel_file.proofs.file.PanelFile.fill_indices.Given as goal

abbrev pub invariant-loop-i : goal.invariant-loop-i
invariant-loop-i l = RunTo l.initial.out 0 (length l.initial.out) (Spec.index l.self.bytes.now l.self.nodes l.corner) l.i l.out
