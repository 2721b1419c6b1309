-- The marks are the rings of the nodes that differ, their count gives the count of the named cells, and the renewed matrix is that of the shape as written.
use mathlib.Core.Path.{sym, ap, subst}
use Prim.Native.Nat.{ℕ, ◌≤◌}
use mathlib.Core.Bool.{false}
use lib.ListN.{length, replicate}
use Rattle.lists.proofs.Counting.{count_bound}
use Rattle.mesh.specs.Mesh.{Mesh, max_nodes}
use Rattle.coupling.specs.Block.{mutual_inductance_block}
use Rattle.scatter.specs.Renewal.{marked}
use Rattle.inductance.specs.Matrix.{cell}
use Rattle.node_move.specs.Move.{on_panels}
use Rattle.shape_return.specs.Return.{on_nodes, MarksChanged}
use Rattle.shape_return.proofs.Laws.{restore_done}
use Rattle.shape_return.proofs.restore.Goals as goal

pub named_cells-requires : goal.named_cells-requires
named_cells-requires c =
    let n = length c.args.x.now in
    (c.requires.shape_of.mesh.limits.few_nodes, subst (λ (k : ℕ). k ≤ n) (sym c.count_marks-r.ensures) (count_bound (marked c.mark_changed_rings.new.marks) n))

pub returns : goal.returns
returns c =
    let a = c.args in
    let p = a.panels.now in
    let mesh : Mesh = on_panels a.x.now a.y.now a.z.now p in
    let shape : Mesh = on_nodes a.shape.now p in
    let q = c.mark_changed_rings in
    let with-panels : Mesh → Mesh = λ n. on_panels n.xs n.ys n.zs p in
    let rings = subst (λ (m : Mesh). MarksChanged m shape (replicate max_nodes false) q.new.marks) (ap with-panels c.lent_nodes.ensures) q.ensures in
    restore_done mesh shape c.requires.shape_of _ (ap with-panels c.set_nodes.ensures) a.out.now c.requires.out_len q.new.marks (cell (mutual_inductance_block a.kind)) _ max_nodes c.count_marks-r.result c.named_cells.result rings c.renew.ensures c.count_marks-r.ensures c.named_cells.ensures
