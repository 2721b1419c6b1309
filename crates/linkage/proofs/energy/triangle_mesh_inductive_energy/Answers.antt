-- Half of the answer for s and itself: its number is that of one vector.
use mathlib.Core.Path.{sym, ap, ◌∙◌}
use lib.Ieee.{Float}
use Rattle.std.proofs.lemmas.Result.{err_from_is_err_and}
use Rattle.binary64.specs.Binary64.{◌⊗◌, half}
use Rattle.linkage.proofs.Sums.{value_refused, value_done}
use Rattle.linkage.proofs.Sizes.{one-vector}
use Rattle.linkage.proofs.energy.triangle_mesh_inductive_energy.Goals as goal

pub returns-in_err-both : goal.returns-in_err-both
returns-in_err-both c =
    let p = err_from_is_err_and c.from_residual.result c.from_residual.ensures.1 in
    rw (p.1, p.2) (record { refusal = c.in_err-both.ensures.refusal ∙ one-vector _ _; value = value_refused _ _ })

pub returns : goal.returns
returns c =
    let e = c.in_ok-both.ensures in
    record { refusal = e.refusal ∙ one-vector _ _; value = ap (λ (x : Float). half ⊗ x) (e.value ∙ value_done _) ∙ sym (value_done _) }
