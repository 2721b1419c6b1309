-- at is the place of part j, each at most 81 places behind the one before.
use Rattle.std.proofs.Common.{◌≡◌, ◌+◌, ◌*◌, ◌≤◌}
use Rattle.replay_columns.specs.Store.{part_at}
use Rattle.replay_columns.proofs.store.part_at.Given as goal

abbrev pub invariant-loop-j : goal.invariant-loop-j
invariant-loop-j l = (l.at ≡ part_at l.w l.q l.j) × (l.at ≤ l.q + 81 * l.j)
