-- None is put at the start, a turn puts the next one behind (`put_next`), and at the end all are put.
use Rattle.std.proofs.Common.{arith}
use Rattle.lists.proofs.Putting.{put_none, put_next, put_all}
use Rattle.lists.proofs.put.Goals as goal

pub loop-k-init : goal.loop-k-init
loop-k-init g c = put_none c.args.out.now c.args.from c.args.items.now

pub loop-k-preserved : goal.loop-k-preserved
loop-k-preserved g c =
    let a = c.args in
    let l = c.loop-k in
    put_next a.from a.items.now l.k c.index-items-k.result c.requires c.loop-k-test.true l.auto.out c.index-items-k.is l.invariant

pub returns : goal.returns
returns g c = put_all c.args.from c.args.items.now c.loop-k.k (omega arith) c.loop-k.invariant
