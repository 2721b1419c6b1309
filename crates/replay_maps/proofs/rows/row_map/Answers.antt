-- The call's answer is the one due, field by field.
use Rattle.replay_maps.proofs.rows.row_map.Goals as goal

pub returns : goal.returns
returns c =
    let e = c.screens_map_row-r.ensures in
    rw (← c.cut_at-size.ensures.0, ← e.refusal, ← e.begins, ← e.long) c.same_place.ensures
