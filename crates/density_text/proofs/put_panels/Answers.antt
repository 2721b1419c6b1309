-- A turn puts the next panel's line.
use mathlib.Core.Path.{◌≡◌, subst}
use mathlib.Core.List.{List}
use Prim.Native.Nat.{ℕ, ◌*◌, ◌≤◌}
use native.Mathlib.Omega.{arith}
use lib.Ieee.{Float}
use lib.ListN.{length}
use Rattle.panel_file.specs.LittleEndian.{rows_from}
use Rattle.panel_file.proofs.Fields.{more_rows, rows_bound}
use Rattle.lists.specs.Putting.{Put}
use Rattle.lists.proofs.Putting.{none, both}
use Rattle.density_text.specs.Text.{line, panel_line}
use Rattle.density_text.proofs.Numerals.{line_short}
use Rattle.density_text.proofs.Inputs.{few_panels}
use Rattle.density_text.proofs.put_panels.Goals as goal

-- lines of at most 55 bytes
short : (b : List ℕ) (i : ℕ) → length (rows_from (panel_line b) 0 i) ≤ i * 55
unfolding panel_line
short b i = rows_bound (panel_line b) 55 (λ k. line_short k _) 0 i

pub loop-i-init : goal.loop-i-init
unfolding rows_from
loop-i-init c = none c.args.out.now c.args.from

pub put_panel-to-requires : goal.put_panel-to-requires
put_panel-to-requires c =
    let l = c.loop-i in
    (omega (arith, few_panels _ _ _ c.requires.0), omega (arith, c.requires.1, l.invariant.behind, short c.args.input.now.bytes.now l.i))

pub loop-i-preserved : goal.loop-i-preserved
unfolding panel_line
loop-i-preserved c =
    let a = c.args in
    let l = c.loop-i in
    let b = a.input.now.bytes.now in
    let p = c.put_panel-to in
    let one = subst (λ (j : List Float). Put l.out l.to (line l.i j) p.new.out p.result) c.density.ensures p.ensures in
    let two = both a.out.now a.from (rows_from (panel_line b) 0 l.i) l.out l.to (panel_line b l.i) _ _ (omega (arith, c.requires.1, short b l.i)) l.invariant one in
    subst (λ (t : List ℕ). Put a.out.now a.from t p.new.out p.result) (more_rows (panel_line b) l.i) two

pub returns : goal.returns
returns c =
    let l = c.loop-i in
    let e : l.i ≡ c.args.input.now.panels = omega arith in
    subst (λ (k : ℕ). Put c.args.out.now c.args.from (rows_from (panel_line c.args.input.now.bytes.now) 0 k) l.out l.to) e l.invariant
