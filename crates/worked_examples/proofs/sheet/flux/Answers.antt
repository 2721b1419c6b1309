-- The call is not refused, so the output is filled.
use mathlib.Core.Path.{◌∙◌}
use Rattle.refusal.specs.Checks.{first, after}
use Rattle.linkage.specs.Flux.{map_refusal, lacks_sources, broken_rows, rows_differ}
use Rattle.worked_examples.proofs.sheet.flux.Goals as goal

pub returns : goal.returns
unfolding after map_refusal lacks_sources broken_rows rows_differ first
returns c = let e = c.triangle_mesh_flux_linkage_from_source_coefficients.ensures in e.flux ∙ rw e.refusal
