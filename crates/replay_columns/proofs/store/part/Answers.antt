-- The elements are as many as their length says, and at most 80.
use Rattle.std.proofs.Common.{◌+◌, ◌*◌, ◌-◌, ◌≤◌, arith}
use Rattle.replay_words.proofs.Lent.{at_most}
use Rattle.replay_columns.specs.Store.{part_from}
use Rattle.replay_columns.proofs.store.part.Goals as goal

pub returns : goal.returns
unfolding part_from
returns g c =
    let from = g.row.PER_WORD * (c.part_at-k.result + 1) in
    let m = c.cut_at-n.result in
    let h : from + m - from ≤ 80 = omega (arith, c.cut_at-n.ensures.1) in
    (rw (← c.part_at-k.ensures.0, ← c.cut_at-n.ensures.0), at_most _ _ _ h)
