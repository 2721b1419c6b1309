-- Panels flagged and linked, named cells cleared, the additions made and the cells below the diagonal copied: the renewed matrix.
use Rattle.mesh.specs.Mesh.{Mesh, nnode}
use Rattle.mesh.specs.Columns.{viewed}
use Rattle.coupling.specs.Block.{mutual_inductance_block}
use Rattle.scatter.specs.Renewal.{marked}
use Rattle.inductance.proofs.Within.{entries-within}
use Rattle.inductance.proofs.Renewing.{loops_done}
use Rattle.inductance.proofs.renew.Goals as goal

pub returns : goal.returns
returns c =
    let a = c.args in
    let m : Mesh = viewed a.mesh.now in
    let f = mutual_inductance_block a.kind in
    let n = c.nnode.ensures in
    loops_done (marked a.marks.now) (nnode m) f m a.out.now c.clear_named.new.out c.add_all.new.out c.copy_below.new.out (entries-within f m c.requires.none_missing) (rw n at c.clear_named.ensures) c.add_all.ensures (rw n at c.copy_below.ensures)
