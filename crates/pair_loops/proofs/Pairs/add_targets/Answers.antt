-- What is left of the targets, added to the matrix as it stands, makes what all of them make at the start: what the scan passes over adds nothing.
use Prim.Native.Nat.{◌+◌, ◌<◌}
use native.Mathlib.Omega.{arith}
use Rattle.mesh.specs.Mesh.{Mesh, nnode, ntri}
use Rattle.mesh.specs.Columns.{viewed}
use Rattle.coupling.specs.Block.{mutual_inductance_block}
use Rattle.scatter.specs.Renewal.{marked}
use Rattle.lists.proofs.First.{next_above}
use Rattle.pair_loops.proofs.Loops.{target_turn, target_next, target_end}
use Rattle.pair_loops.proofs.Pairs.add_targets.Goals as goal

pub loop-j-smaller : goal.loop-j-smaller
loop-j-smaller c = omega (arith, c.loop-j-test.true, next_above _ _ _ c.next_named-j.ensures)

pub loop-j-preserved : goal.loop-j-preserved
loop-j-preserved c =
    let a = c.args in
    let l = c.loop-j in
    let m : Mesh = viewed a.self.now.mesh in
    let f = mutual_inductance_block a.self.now.kind in
    let r = marked a.self.now.marks.now in
    let s = c.requires.scanned in
    let h : l.j < ntri m = omega arith in
    let g = rw s.counted at c.next_named-j.ensures in (
      omega (arith, l.invariant.0, next_above _ _ _ g),
      target_next r (nnode m) f m a.self.now.flagged.set.marks.now a.i (l.j + 1) (ntri m) c.next_named-j.result _ s.flags_made (omega (arith, l.invariant.0)) g
          (target_turn r (nnode m) f m a.i l.j (ntri m) l.out h c.add_pair.ensures l.invariant.1),
    )

pub returns : goal.returns
returns c =
    let a = c.args in
    let l = c.loop-j in
    let m : Mesh = viewed a.self.now.mesh in
    target_end (marked a.self.now.marks.now) (nnode m) (mutual_inductance_block a.self.now.kind) m a.i l.j (ntri m) l.out (omega arith) l.invariant.1
