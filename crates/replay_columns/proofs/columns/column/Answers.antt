-- The column ends where the next begins, and holds at most 48.
use Rattle.std.proofs.Common.{◌+◌, ◌-◌, ◌≤◌, arith}
use Rattle.replay_words.proofs.Lent.{at_most}
use Rattle.replay_columns.specs.Columns.{column}
use Rattle.replay_columns.proofs.Ends.{column_next}
use Rattle.replay_columns.proofs.columns.column.Goals as goal

pub returns : goal.returns
unfolding column
returns g c =
    let a = c.column_at-from in
    let e = c.column_end-to in
    let h : e.result - (a.result + 1) ≤ 48 = omega arith in
    (rw (column_next, ← a.ensures.0, ← e.ensures.0), at_most _ _ _ h)
