-- A refusal leaves the output as it was; else the map has a row for each number of the output.
use mathlib.Core.Path.{refl, sym, ◌∙◌}
use Rattle.std.proofs.lemmas.Result.{err_from_is_err_and}
use Rattle.refusal.proofs.Checks.{after-done}
use Rattle.refusal.proofs.Outcome.{after_refusal}
use Rattle.linkage.proofs.Sizes.{map-sized}
use Rattle.linkage.proofs.flux.triangle_mesh_flux_linkage_from_source_coefficients.Goals as goal

pub returns-in_err-check_map : goal.returns-in_err-check_map
returns-in_err-check_map c =
    let p = err_from_is_err_and c.from_residual.result c.from_residual.ensures.1 in
    rw (p.1, p.2) (record { refusal = c.in_err-check_map.ensures; flux = sym (after_refusal _ _ _) })

pub fill_flux-requires : goal.fill_flux-requires
fill_flux-requires c = map-sized _ _ _ c.in_ok-check_map.ensures

pub returns : goal.returns
returns c = record { refusal = c.in_ok-check_map.ensures; flux = c.fill_flux.ensures ∙ sym (after-done 0 _ _ refl) }
