-- The call is not refused, so its value is the one due.
use mathlib.Core.Path.{◌∙◌}
use Rattle.refusal.specs.Checks.{first}
use Rattle.worked_examples.proofs.Outcomes.{unwrapped}
use Rattle.linkage.specs.Answer.{value_after}
use Rattle.linkage.specs.Energy.{energy_refusal}
use Rattle.worked_examples.proofs.sheet.energy.Goals as goal

pub returns : goal.returns
unfolding value_after energy_refusal first
returns c = let e = c.triangle_mesh_inductive_energy.ensures in c.unwrap_or.ensures ∙ unwrapped _ c.triangle_mesh_inductive_energy.result ∙ e.value ∙ rw e.refusal
