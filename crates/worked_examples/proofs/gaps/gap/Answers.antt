-- The two cases of which place is the higher.
use borrow.Author.Tests.{lt-ltb, le-ltb}
use Rattle.worked_examples.specs.Gaps.{gap}
use Rattle.worked_examples.proofs.gaps.gap.Goals as goal

pub returns-then-a-b : goal.returns-then-a-b
unfolding gap
returns-then-a-b c =
    rw (← c.canonical_bits.ensures, ← c.rank-a.ensures, ← c.canonical_bits-2.ensures, ← c.rank-b.ensures, lt-ltb _ _ c.if-a-b.true)

pub returns-else-a-b : goal.returns-else-a-b
unfolding gap
returns-else-a-b c =
    rw (← c.canonical_bits.ensures, ← c.rank-a.ensures, ← c.canonical_bits-2.ensures, ← c.rank-b.ensures, le-ltb _ _ c.if-a-b.false)
