-- 1 / 0 computes to the infinity.
use mathlib.Core.Path.{refl}
use lib.Ieee.{div, of_bits}
use Rattle.ieee754.proofs.infinity.Goals as goal

pub returns : goal.returns
unfolding div of_bits
returns c = refl
