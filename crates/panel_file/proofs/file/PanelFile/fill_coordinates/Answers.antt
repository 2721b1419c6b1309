-- Each turn fills the next place, and there is one for each node.
use mathlib.Core.Path.{refl, ap, ◌∙◌}
use Prim.Native.Nat.{ℕ}
use native.Mathlib.Omega.{arith}
use Rattle.lists.specs.Filling.{tabulate}
use Rattle.lists.proofs.Runs.{front_further, filled_whole}
use Rattle.panel_file.specs.PanelFile as Spec
use Rattle.panel_file.proofs.file.PanelFile.fill_coordinates.Goals as goal

pub loop-k-preserved : goal.loop-k-preserved
loop-k-preserved c = front_further c.loop-k.invariant (omega arith) refl c.coordinate.ensures

pub returns : goal.returns
returns c =
    let f = c.args.self.now in
    filled_whole c.loop-k.invariant refl (omega arith) ∙ ap (λ (n : ℕ). tabulate n (Spec.coordinate f.bytes.now c.args.axis)) (c.requires.1 ∙ f.holds.nodes)
