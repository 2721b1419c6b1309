-- Each corner is the node at the index that the bytes give.
use mathlib.Core.List.{[], ◌∷◌}
use mathlib.Core.Path.{ap, ◌∙◌}
use Prim.Native.Nat.{◌<◌}
use native.Mathlib.Omega.{arith}
use Rattle.mesh.specs.Mesh as Mesh
use Rattle.panel_file.specs.PanelFile.{decode, panel_count}
use Rattle.panel_file.proofs.Decoded.{index_at}
use Rattle.panel_file.proofs.file.PanelFile.triangle_nodes.Goals as goal

pub returns : goal.returns
returns c =
    let f = c.args.self.now in
    let b = f.bytes.now in
    let i = c.args.i in
    let e = f.holds.nodes in
    let l : i < panel_count b = omega (arith, f.counted) in
    let n0 = c.node.ensures ∙ ap (Mesh.node (decode b)) (c.index.ensures.value ∙ index_at b f.nodes 0 i e l) in
    let n1 = c.node-2.ensures ∙ ap (Mesh.node (decode b)) (c.index-2.ensures.value ∙ index_at b f.nodes 1 i e l) in
    let n2 = c.node-3.ensures ∙ ap (Mesh.node (decode b)) (c.index-3.ensures.value ∙ index_at b f.nodes 2 i e l) in
    (λ j. n0 j ∷ n1 j ∷ n2 j ∷ [])
