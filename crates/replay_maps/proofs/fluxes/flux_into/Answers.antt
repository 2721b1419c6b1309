-- The call's number and what it leaves in its buffers are the ones due.
use Rattle.replay_maps.proofs.fluxes.flux_into.Goals as goal

pub returns : goal.returns
returns c =
    let e = c.triangle_mesh_flux_linkage_from_source_coefficients-outcome.ensures in
    rw (← e.refusal, ← e.flux, ← c.same_refusal-a.ensures, ← c.held-b.ensures)
