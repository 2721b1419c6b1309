-- The call is not refused, so its value is the one due.
use mathlib.Core.Path.{◌∙◌}
use Rattle.refusal.specs.Checks.{first}
use Rattle.worked_examples.proofs.Outcomes.{unwrapped}
use Rattle.linkage.specs.Answer.{value_after}
use Rattle.linkage.specs.Flux.{map_refusal, lacks_sources, broken_rows, rows_differ}
use Rattle.worked_examples.proofs.sheet.interaction_energy.Goals as goal

pub returns : goal.returns
unfolding value_after map_refusal lacks_sources broken_rows rows_differ first
returns c = let e = c.triangle_mesh_interaction_energy_from_source_coefficients.ensures in c.unwrap_or.ensures ∙ unwrapped _ c.triangle_mesh_interaction_energy_from_source_coefficients.result ∙ e.value ∙ rw e.refusal
