-- The first panel that passes the test decides, and none does at the end.
use mathlib.Core.Path.{sym, ap, ◌∙◌}
use Prim.Native.Nat.{ℕ, ◌<◌}
use native.Mathlib.Omega.{arith}
use borrow.Author.Count.{below_more}
use Rattle.mesh.specs.Mesh.{triangle_nodes, is_zero_area}
use Rattle.panel_file.specs.PanelFile.{decode, panel_count}
use Rattle.panel_file.proofs.Decoded.{panels, below, some_panel, no_panel}
use Rattle.panel_file.proofs.file.PanelFile.some_zero_area.Goals as goal

pub triangle_nodes-requires : goal.triangle_nodes-requires
triangle_nodes-requires c =
    let f = c.args.self.now in
    let b = f.bytes.now in
    let i = c.loop-i.i in
    let l : i < panel_count b = omega (arith, f.counted) in
    (omega arith, below b f.nodes i f.holds.nodes l (c.requires i (omega (arith, panels b))))

pub returns-then-is_zero_area : goal.returns-then-is_zero_area
returns-then-is_zero_area c =
    let f = c.args.self.now in
    let b = f.bytes.now in
    let e = c.is_zero_area.ensures ∙ ap is_zero_area c.triangle_nodes.ensures in
    sym (some_panel b (λ (i : ℕ). is_zero_area (triangle_nodes (decode b) i)) c.loop-i.i (omega (arith, f.counted)) (sym e ∙ c.if-is_zero_area.true))

pub loop-i-preserved : goal.loop-i-preserved
loop-i-preserved c =
    let e = c.is_zero_area.ensures ∙ ap is_zero_area c.triangle_nodes.ensures in
    below_more _ _ c.loop-i.invariant (sym e ∙ c.if-is_zero_area.false)

pub returns : goal.returns
returns c =
    let f = c.args.self.now in
    let b = f.bytes.now in
    sym (no_panel b (λ (i : ℕ). is_zero_area (triangle_nodes (decode b) i)) f.panels f.counted (λ k h. c.loop-i.invariant k (omega arith)))
