-- Each turn fills the next place, and there is one for each panel.
use mathlib.Core.Path.{refl, ◌∙◌}
use native.Mathlib.Omega.{arith}
use Rattle.lists.specs.Filling.{tabulate}
use Rattle.lists.proofs.Runs.{front_further, filled_whole}
use Rattle.panel_file.specs.PanelFile as Spec
use Rattle.panel_file.proofs.file.PanelFile.fill_indices.Goals as goal

pub loop-i-preserved : goal.loop-i-preserved
loop-i-preserved c = front_further c.loop-i.invariant (omega arith) refl c.index.ensures.value

pub returns : goal.returns
returns c =
    let f = c.args.self.now in
    filled_whole c.loop-i.invariant refl (omega arith) ∙ (λ j. tabulate ((c.requires.1 ∙ f.counted) j) (Spec.index f.bytes.now (f.holds.nodes j) c.args.corner))
