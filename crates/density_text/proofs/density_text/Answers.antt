-- A refusal's line, or line one and the panels' lines one behind the other.
use mathlib.Core.Path.{◌≡◌, ap, ◌∙◌, subst}
use mathlib.Core.List.{List, ◌++◌}
use Prim.Native.Nat.{ℕ}
use native.Mathlib.Omega.{arith}
use Rattle.panel_file.specs.LittleEndian.{rows_from}
use Rattle.lists.specs.Putting.{Put}
use Rattle.lists.proofs.Putting.{both}
use Rattle.density_text.specs.Text.{first_line, panel_line, densities, text}
use Rattle.density_text.proofs.Numerals.{first_short}
use Rattle.density_text.proofs.Inputs.{input_of, text-refused, text-accepted, few_nodes, few_panels}
use Rattle.density_text.proofs.density_text.Goals as goal

pub returns-in-Err-clause-put : goal.returns-in-Err-clause-put
returns-in-Err-clause-put c =
    subst (λ (t : List ℕ). Put c.args.out.now 0 t c.put_refused.new.out c.put_refused.result) (text-refused _ _ c.in-Err.ensures.number) c.put_refused.ensures

pub put_first-to-requires : goal.put_first-to-requires
put_first-to-requires c =
    let f = c.in-Ok in
    let i = input_of f.input.holds.nodes f.input.counted f.ensures.file f.ensures.number in
    (omega (arith, few_nodes _ _ _ i), omega (arith, few_panels _ _ _ i), omega (arith, c.requires))

pub put_panels-requires : goal.put_panels-requires
put_panels-requires c =
    let f = c.in-Ok in
    let i = input_of f.input.holds.nodes f.input.counted f.ensures.file f.ensures.number in
    let p = c.put_first-to in
    (i, omega (arith, c.requires, few_panels _ _ _ i, p.ensures.behind, first_short f.input.nodes f.input.panels, p.auto.out))

pub returns-in-Ok-clause-put : goal.returns-in-Ok-clause-put
unfolding densities
returns-in-Ok-clause-put c =
    let f = c.in-Ok in
    let n = f.input.nodes in
    let p = f.input.panels in
    let a = f.input.bytes.now in
    let b = c.args.bytes.now in
    let i = input_of f.input.holds.nodes f.input.counted f.ensures.file f.ensures.number in
    let w = both c.args.out.now 0 (first_line n p) c.put_first-to.new.out c.put_first-to.result (rows_from (panel_line a) 0 p) c.put_panels.new.out c.put_panels.result (omega (arith, c.requires, first_short n p)) c.put_first-to.ensures c.put_panels.ensures in
    let e : first_line n p ++ rows_from (panel_line a) 0 p ≡ text b = (λ j. first_line (i.nodes j) (i.panels j) ++ rows_from (panel_line a) 0 (i.panels j)) ∙ ap densities f.ensures.file ∙ text-accepted b f.ensures.number in
    subst (λ (t : List ℕ). Put c.args.out.now 0 t c.put_panels.new.out c.put_panels.result) e w
