-- The two cases of the sign; below it 2^64 − b is written without leaving the word.
use native.Mathlib.Omega.{arith}
use borrow.Author.Tests.{lt-ltb, le-ltb}
use Rattle.worked_examples.specs.Gaps.{rank}
use Rattle.worked_examples.proofs.gaps.rank.Goals as goal

pub returns-then-b-lt9223372036854775808 : goal.returns-then-b-lt9223372036854775808
unfolding rank
returns-then-b-lt9223372036854775808 c = rw (lt-ltb _ _ c.if-b-lt9223372036854775808.true)

pub returns-else-b-lt9223372036854775808 : goal.returns-else-b-lt9223372036854775808
unfolding rank
returns-else-b-lt9223372036854775808 c = rw (le-ltb _ _ c.if-b-lt9223372036854775808.false) (omega arith)
