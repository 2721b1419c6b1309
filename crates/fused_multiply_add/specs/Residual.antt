-- Inner form: what `mul_add` and `square_add` test and compute: the rest of the exact sum over the hardware's sum t, and when that gives the answer. Definitions only.
use Rattle.std.specs.Prelude.{ℕ, ◌+◌, ◌-◌, ◌^◌, ◌<◌, Bool, cond, ◌&&◌, Float}
use Rattle.std.specs.Float.Ieee.{eq, ne}
use Rattle.binary64.specs.Format.{quantum_bias}
use Rattle.binary64.specs.Binary64.{plus_zero}
use Rattle.fused_guided.specs.Guided.{in_reach}

-- ---- the rest: ±p ± z less t, minus where cp and cz

-- what is added, and what is taken away
abbrev pub added : Bool → ℕ → Bool → ℕ → ℕ
added cp p cz z = cond cp 0 p + cond cz 0 z

abbrev pub taken : Bool → ℕ → Bool → ℕ → ℕ → ℕ
taken cp p cz z t = t + (cond cp p 0 + cond cz z 0)

-- it is below 2 ^ 63 in size
pub record Fits (cp : Bool) (p : ℕ) (cz : Bool) (z t : ℕ) : Type 0 where
  pub lower : taken cp p cz z t < added cp p cz z + 2 ^ 63
  pub upper : added cp p cz z < taken cp p cz z t + 2 ^ 63

-- a value with the field ex + ey - residual_bias has its last digit 12 places above the last of the product, where the rest is cut
abbrev pub residual_bias : ℕ
residual_bias = quantum_bias - 12

-- ---- when they answer

-- z is a zero, and p is none
unfoldable pub lone_product : Float → Float → Bool
lone_product p z = eq z plus_zero && ne p plus_zero

-- from this place of t's last digit on the exact sum has t's sign, and its last digit stands two places or more above the rest's cut
abbrev pub least_place : ℕ
least_place = 15

-- both factors' fields are central, z is k places above the product's last digit, and t's last digit m places
abbrev pub reach : ℕ → ℕ → ℕ → ℕ → Bool
reach ex ey k m = in_reach least_place ex ey k m
