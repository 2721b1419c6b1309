-- The magnetic constants as bit patterns: the rounded operations are closed, so they compute.
use mathlib.Core.Path.{◌≡◌, refl}
use lib.Ieee.{mul, div, of_bits}
use Rattle.binary64.specs.Binary64.{bits}
use Rattle.math.specs.Math.{mu0, mu0_over4_pi}

pub mu0_bits : mu0 ≡ bits 0x3eb5_1537_0f8e_3147
unfolding mu0 mul of_bits
mu0_bits = refl

pub mu0_over_4pi_bits : mu0_over4_pi ≡ bits 0x3e7a_d7f2_9aad_b25b
unfolding mu0 mu0_over4_pi mul div of_bits
mu0_over_4pi_bits = refl
