-- What stands for a NaN is a number: by computing.
use mathlib.Core.Path.{refl}
use lib.Ieee.{is_nan, of_bits}
use Rattle.fused_lanes.proofs.number.Goals as goal

pub returns-else-x-clause-result_value : goal.returns-else-x-clause-result_value
unfolding is_nan of_bits
returns-else-x-clause-result_value c = refl
