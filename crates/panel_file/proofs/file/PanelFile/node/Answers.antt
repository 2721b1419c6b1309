-- Three coordinates of the bytes are the decoded mesh's node.
use mathlib.Core.List.{[], ◌∷◌}
use mathlib.Core.Path.{◌∙◌}
use native.Mathlib.Omega.{arith}
use Rattle.panel_file.proofs.Decoded.{node_is}
use Rattle.panel_file.proofs.file.PanelFile.node.Goals as goal

pub returns : goal.returns
returns c =
    let f = c.args.self.now in
    (λ i. c.coordinate.ensures i ∷ c.coordinate-2.ensures i ∷ c.coordinate-3.ensures i ∷ [])
    ∙ node_is f.bytes.now c.args.k (omega (arith, f.holds.nodes))
