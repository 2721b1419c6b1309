-- The lane is its definition by the contracts of its parts (`lane`); and what it settles is `fma` (`lane-fma`).
use mathlib.Core.Path.{◌≡◌, sym, ap, ◌∙◌, subst}
use lib.Dec.{T}
use lib.Ieee.{binary64, fits, is_nan}
use Rattle.fused_lanes.specs.Lanes as Spec
use Rattle.fused_lanes.proofs.Laws.Lane.{lane-fma}
use Rattle.fused_lanes.proofs.square_add.Goals as goal

pub returns : goal.returns
unfolding Spec.square_add
returns c =
    let held_x : T (fits binary64 c.args.x) = subst T (sym c.well_formed.0.1) tt in
    let held-z : T (fits binary64 c.args.z) = subst T (sym c.well_formed.1.0.1) tt in
    let lane : c.settled.result ≡ Spec.square_add c.args.x c.args.z = rw (c.settled.ensures, c.select-alone.ensures, c.not_a_number.ensures, c.sum_residual.ensures, c.square_residual.ensures, c.leading.ensures, c.magnitude_or_zero-b.ensures.value) in
    let e = lane in
    record { value = e; value_2 = λ n. e ∙ lane-fma c.args.x c.args.z held_x held-z (sym (ap is_nan e) ∙ n) }
