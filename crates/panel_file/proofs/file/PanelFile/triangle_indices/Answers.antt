-- Three indices of the bytes are the decoded mesh's panel.
use mathlib.Core.List.{[], ◌∷◌}
use mathlib.Core.Path.{◌∙◌}
use native.Mathlib.Omega.{arith}
use Rattle.panel_file.proofs.Decoded.{indices_are}
use Rattle.panel_file.proofs.file.PanelFile.triangle_indices.Goals as goal

pub returns : goal.returns
returns c =
    let f = c.args.self.now in
    (λ i. c.index.ensures.value i ∷ c.index-2.ensures.value i ∷ c.index-3.ensures.value i ∷ [])
    ∙ indices_are f.bytes.now f.nodes c.args.i f.holds.nodes (omega (arith, f.counted))
