-- On a refusal the value is zero; else the map has a row for each nodal value.
use mathlib.Core.Path.{sym, ◌∙◌}
use Rattle.std.proofs.lemmas.Result.{err_from_is_err_and}
use Rattle.linkage.proofs.Sums.{value_refused, value_done}
use Rattle.linkage.proofs.Sizes.{map-sized}
use Rattle.linkage.proofs.flux.triangle_mesh_interaction_energy_from_source_coefficients.Goals as goal

pub returns-in_err-check_map : goal.returns-in_err-check_map
returns-in_err-check_map c =
    let p = err_from_is_err_and c.from_residual.result c.from_residual.ensures.1 in
    rw (p.1, p.2) (record { refusal = c.in_err-check_map.ensures; value = value_refused _ _ })

pub add_interaction-requires : goal.add_interaction-requires
add_interaction-requires c = map-sized _ _ _ c.in_ok-check_map.ensures

pub returns : goal.returns
returns c = record { refusal = c.in_ok-check_map.ensures; value = c.add_interaction.ensures ∙ sym (value_done _) }
