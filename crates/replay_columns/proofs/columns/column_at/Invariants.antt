-- at is the place of the column so far, each at most 49 places behind the one before.
use Rattle.std.proofs.Common.{◌≡◌, ◌+◌, ◌*◌, ◌≤◌}
use Rattle.replay_columns.specs.Columns.{column_at}
use Rattle.replay_columns.proofs.columns.column_at.Given as goal

abbrev pub invariant-loop : goal.invariant-loop
invariant-loop l = (l.at ≡ column_at l.w l.k l.counter) × (l.at ≤ l.k + 49 * l.counter)
