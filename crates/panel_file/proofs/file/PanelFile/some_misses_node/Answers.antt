-- The first panel that passes the test decides, and none does at the end.
use mathlib.Core.Path.{sym, ap, ◌∙◌}
use mathlib.Core.List.{List}
use Prim.Native.Nat.{ℕ}
use native.Mathlib.Omega.{arith}
use Rattle.lists.specs.Counting.{triple}
use Rattle.mesh.specs.Mesh.{triangle_indices, misses_node, nnode}
use Rattle.panel_file.specs.PanelFile.{decode}
use Rattle.panel_file.proofs.Decoded.{misses_node_lem, some_panel, no_panel}
use Rattle.panel_file.proofs.file.PanelFile.some_misses_node.Goals as goal

pub returns-then-misses_node : goal.returns-then-misses_node
returns-then-misses_node c =
    let f = c.args.self.now in
    let b = f.bytes.now in
    let l = c.loop-i in
    let e = c.misses_node.ensures ∙ ap (λ (v : List ℕ). misses_node f.nodes (triple v)) c.triangle_indices.ensures in
    sym (some_panel b (λ (i : ℕ). misses_node (nnode (decode b)) (triangle_indices (decode b) i)) l.i (omega (arith, f.counted))
    (sym (misses_node_lem b f.nodes f.holds.nodes (triangle_indices (decode b) l.i)) ∙ sym e ∙ c.if-misses_node.true))

pub returns : goal.returns
returns c =
    let f = c.args.self.now in
    let b = f.bytes.now in
    let l = c.loop-i in
    sym (no_panel b (λ (i : ℕ). misses_node (nnode (decode b)) (triangle_indices (decode b) i)) f.panels f.counted
    (λ k h. sym (misses_node_lem b f.nodes f.holds.nodes (triangle_indices (decode b) k)) ∙ l.invariant k (omega arith)))
