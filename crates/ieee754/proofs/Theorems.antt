-- No two numbers share their bits, the NaN being one number: from its bits each is found again.
use Rattle.std.specs.Prelude.{◌≡◌, T}
use mathlib.Core.Path.{sym, ap, ◌∙◌}
use lib.Ieee.{Float, binary64, fits, of_bits}
use lib.Ieee.Bits.{of_bits-to_bits}
use Rattle.ieee754.specs.Ieee754.{canonical_bits}
use Rattle.ieee754.proofs.Patterns.{canonical_is}

pub canonical_only : (x y : Float) → T (fits binary64 x) → T (fits binary64 y) → canonical_bits x ≡ canonical_bits y → x ≡ y
canonical_only x y hx hy e = sym (of_bits-to_bits binary64 x hx) ∙ ap (of_bits binary64) (sym (canonical_is x) ∙ e ∙ canonical_is y) ∙ of_bits-to_bits binary64 y hy
