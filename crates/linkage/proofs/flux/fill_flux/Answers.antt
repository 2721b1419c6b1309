-- The output is filled from the front, one row's flux a turn.
use mathlib.Core.Path.{refl}
use native.Mathlib.Omega.{arith}
use Rattle.lists.proofs.Runs.{front_further, filled_whole}
use Rattle.linkage.proofs.flux.fill_flux.Goals as goal

pub loop-i-preserved : goal.loop-i-preserved
loop-i-preserved c = front_further c.loop-i.invariant (omega arith) refl c.row_flux.ensures

pub returns : goal.returns
returns c = filled_whole c.loop-i.invariant refl (omega arith)
