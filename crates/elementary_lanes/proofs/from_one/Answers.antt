-- What stands for a NaN is a number: by computing.
use mathlib.Core.Path.{refl}
use lib.Ieee.{is_nan, of_bits}
use Rattle.elementary_lanes.proofs.from_one.Goals as goal

pub returns-else-y-clause-result_value : goal.returns-else-y-clause-result_value
unfolding is_nan of_bits
returns-else-y-clause-result_value c = refl
