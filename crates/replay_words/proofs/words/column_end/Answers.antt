-- The cut length's contract.
use native.Mathlib.Omega.{arith}
use Rattle.replay_words.specs.Words.{column_end}
use Rattle.replay_words.proofs.words.column_end.Goals as goal

pub returns : goal.returns
unfolding column_end
returns c = (rw (← c.cut_at.ensures.0), omega arith, omega arith)
