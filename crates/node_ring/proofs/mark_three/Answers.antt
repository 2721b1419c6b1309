-- The three writes, by the law of three marks.
use Rattle.node_ring.proofs.Marks.{three-marks}
use Rattle.node_ring.proofs.mark_three.Goals as goal

pub returns : goal.returns
returns c = three-marks c.args.marks.now c.args.s c.requires
