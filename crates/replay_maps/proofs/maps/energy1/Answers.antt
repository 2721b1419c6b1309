-- The columns are parts of the case's numbers; the call's answer is the one due.
use Rattle.replay_maps.proofs.maps.energy1.Goals as goal

pub returns : goal.returns
returns c =
    let e = c.triangle_mesh_inductive_energy-outcome.ensures in
    rw (← c.cut_at-n.ensures.0, ← c.cut_at-m.ensures.0, ← e.refusal, ← e.value) c.same_value.ensures
