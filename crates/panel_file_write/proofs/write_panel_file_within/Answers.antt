-- A refusal leaves the output as it was. A call that goes on has an accepted mesh and an output of its file's length; header, nodes and panels put one behind the other are the file, which fills it.
-- That the reader takes the file and gives back the mesh is the round trip of panel_file: the numbers of lent columns are numbers of the format.
use mathlib.Core.Path.{refl, subst}
use mathlib.Core.List.{List}
use Prim.Native.Nat.{ℕ}
use Rattle.std.proofs.lemmas.Result.{err_from_is_err_and}
use Rattle.lists.specs.Putting.{Put}
use Rattle.mesh.specs.Columns.{viewed}
use Rattle.panel_file.specs.PanelFile.{encode_header, Held}
use Rattle.panel_file_write.proofs.Whole.{refused, accepted, header-room, nodes-room, panels-room, done}
use Rattle.panel_file_write.proofs.write_panel_file_within.Goals as goal

pub returns-in_err-check_write : goal.returns-in_err-check_write
returns-in_err-check_write c =
    let p = err_from_is_err_and c.from_residual.result c.from_residual.ensures.1 in
    rw (p.1, p.2) (refused _ _ (viewed c.args.mesh.now) _ _ c.in_err-check_write.ensures)

pub put_header-behind_header-requires : goal.put_header-behind_header-requires
put_header-behind_header-requires c = header-room _ _ (viewed c.args.mesh.now) c.args.out.now c.in_ok-check_write.ensures

pub put_nodes-behind_nodes-requires : goal.put_nodes-behind_nodes-requires
put_nodes-behind_nodes-requires c =
    let m = viewed c.args.mesh.now in
    let goes_on = c.in_ok-check_write.ensures in
    let h = c.put_header-behind_header in
    let ok = (accepted _ _ m c.args.out.now goes_on).nodes_alike in
    (record { ys_long = ok.ys_long; zs_long = ok.zs_long }, nodes-room _ _ m c.args.out.now goes_on _ _ _ _ h.ensures h.auto.out)

pub put_panels-requires : goal.put_panels-requires
put_panels-requires c =
    let m = viewed c.args.mesh.now in
    let goes_on = c.in_ok-check_write.ensures in
    let h = c.put_header-behind_header in
    let k = c.put_nodes-behind_nodes in
    let ok = (accepted _ _ m c.args.out.now goes_on).panels_alike in
    (record { t1_long = ok.t1_long; t2_long = ok.t2_long }, panels-room _ _ m c.args.out.now goes_on _ _ _ _ h.ensures h.auto.out _ refl _ _ k.ensures.put k.auto.out)

pub returns : goal.returns
returns c =
    let m = viewed c.args.mesh.now in
    let h = c.put_header-behind_header in
    let k = c.put_nodes-behind_nodes in
    let header = subst (λ (t : List ℕ). Put c.args.out.now 0 t h.new.out h.result) (λ i. encode_header (c.nnode.ensures i) (c.ntri.ensures i)) h.ensures in
    let held : Held m = record { x = k.ensures.held.x; y = k.ensures.held.y; z = k.ensures.held.z } in
    done _ _ m c.args.out.now c.in_ok-check_write.ensures _ _ header h.auto.out _ _ k.ensures.put _ _ c.put_panels.ensures c.requires.0 c.requires.1 held
