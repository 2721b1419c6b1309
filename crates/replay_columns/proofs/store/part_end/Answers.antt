-- The two cases of the test.
use native.Mathlib.Omega.{arith}
use borrow.Author.Tests.{lt-ltb, le-ltb}
use Rattle.replay_columns.specs.Store.{part_end}
use Rattle.replay_columns.proofs.store.part_end.Goals as goal

pub returns-then-i-lt2 : goal.returns-then-i-lt2
unfolding part_end
returns-then-i-lt2 c = (rw (lt-ltb _ _ c.if-i-lt2.true, ← c.cut_at-n.ensures.0, ← c.bytes_end.ensures.0), omega arith)

pub returns : goal.returns
unfolding part_end
returns c = (rw (le-ltb _ _ c.if-i-lt2.false, ← c.cut_at-n.ensures.0), omega arith)
