-- The marks are the ring, their count gives the count of the named cells, and the renewed matrix is that of the mesh as written.
use mathlib.Core.Path.{subst, sym}
use Prim.Native.Nat.{ℕ, ◌≤◌}
use lib.ListN.{length, length-set}
use Rattle.binary64.specs.Binary64.{at}
use Rattle.lists.proofs.Counting.{count_bound}
use Rattle.mesh.specs.Mesh.{Mesh, max_nodes}
use Rattle.coupling.specs.Block.{mutual_inductance_block}
use Rattle.scatter.specs.Renewal.{marked}
use Rattle.inductance.specs.Matrix.{cell}
use Rattle.node_move.specs.Move.{on_panels}
use Rattle.node_move.proofs.Laws.{move_done}
use Rattle.node_move.proofs.move_accepted.Goals as goal

pub named_cells-requires : goal.named_cells-requires
named_cells-requires c =
    let n = length c.args.x.now in
    (c.requires.small, subst (λ (k : ℕ). k ≤ n) (sym c.count_marks-r.ensures) (count_bound (marked c.mark_ring.new.marks) n))

pub returns : goal.returns
returns c =
    let a = c.args in
    let m : Mesh = on_panels a.x.now a.y.now a.z.now a.panels.now in
    let q = c.mark_ring in
    let t = c.count_marks-r in
    move_done (cell (mutual_inductance_block a.kind)) m a.v (at a.place 0) (at a.place 1) (at a.place 2) a.out.now _ q.new.marks _ t.result c.named_cells.result max_nodes q.ensures (length-set a.x.now a.v _) c.renew.ensures t.ensures c.named_cells.ensures
