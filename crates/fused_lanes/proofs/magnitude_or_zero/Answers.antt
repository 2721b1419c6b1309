-- A number's pattern without its sign is at most an infinity's: `number-pattern`.
use mathlib.Core.Path.{sym, subst}
use lib.Dec.{T}
use lib.Ieee.{Float, binary64, fits}
use Rattle.fused_lanes.proofs.Laws.Pattern.{number-pattern, number_fits}
use Rattle.fused_lanes.proofs.magnitude_or_zero.Goals as goal

pub returns-clause-upper_bound : goal.returns-clause-upper_bound
returns-clause-upper_bound c =
    let held : T (fits binary64 c.args.x) = subst T (sym c.well_formed.0.1) tt in
    number-pattern c.number.result (subst (λ (y : Float). T (fits binary64 y)) (sym c.number.ensures.value) (number_fits c.args.x held)) c.number.ensures.result_value
