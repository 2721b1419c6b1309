-- On a refusal the value is zero; else the lengths are what the sum over all rows requires.
use mathlib.Core.Path.{sym, ◌∙◌}
use Rattle.std.proofs.lemmas.Result.{err_from_is_err_and}
use Rattle.linkage.proofs.Sums.{value_refused, value_done}
use Rattle.linkage.proofs.Sizes.{vectors_sized}
use Rattle.linkage.proofs.energy.triangle_mesh_inductance_from_potential_vectors.Goals as goal

pub returns-in_err-check_vectors : goal.returns-in_err-check_vectors
returns-in_err-check_vectors c =
    let p = err_from_is_err_and c.from_residual.result c.from_residual.ensures.1 in
    rw (p.1, p.2) (record { refusal = c.in_err-check_vectors.ensures; value = value_refused _ _ })

pub add_rows-requires : goal.add_rows-requires
add_rows-requires c = vectors_sized _ _ _ c.in_ok-check_vectors.ensures

pub returns : goal.returns
returns c = record { refusal = c.in_ok-check_vectors.ensures; value = c.add_rows.ensures ∙ sym (value_done _) }
