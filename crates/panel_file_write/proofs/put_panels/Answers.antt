-- A panel's row is its three indices.
use mathlib.Core.Path.{ap, subst}
use mathlib.Core.List.{List}
use Prim.Native.Nat.{ℕ}
use native.Mathlib.Omega.{arith}
use lib.ListN.{get_or}
use Rattle.lists.specs.Putting.{Put}
use Rattle.mesh.specs.Columns.{viewed_panels}
use Rattle.panel_file.specs.LittleEndian.{three_fields}
use Rattle.panel_file.specs.PanelFile.{encode_panel}
use Rattle.panel_file.proofs.RoundTrip.{panel_length}
use Rattle.panel_file_write.proofs.Rows.{begun, next_room, further, all_put}
use Rattle.panel_file_write.proofs.put_panels.Goals as goal

pub loop-i-init : goal.loop-i-init
loop-i-init c = begun 6 (panel_length (viewed_panels c.args.panels.now)) c.requires.1

pub put_three-to-requires : goal.put_three-to-requires
put_three-to-requires c =
    (omega arith, next_room 6 (panel_length (viewed_panels c.args.panels.now)) c.requires.1 c.loop-i.invariant c.loop-i-test.true)

pub loop-i-preserved : goal.loop-i-preserved
unfolding encode_panel
loop-i-preserved c =
    let p = c.put_three-to in
    let row = ap (λ (v : List ℕ). three_fields 2 (get_or v 0 0) (get_or v 1 0) (get_or v 2 0)) c.triangle_indices.ensures in
    further 6 (panel_length (viewed_panels c.args.panels.now)) c.requires.1 c.loop-i.invariant c.loop-i-test.true p.auto.out
    (subst (λ (t : List ℕ). Put c.loop-i.out c.loop-i.to t p.new.out p.result) row p.ensures)

pub returns : goal.returns
returns c = all_put 6 (panel_length (viewed_panels c.args.panels.now)) c.requires.1 c.loop-i.invariant (omega arith)
