-- Bounds by powers of two: a sign changes no size.
use Rattle.std.specs.Prelude.{ℕ, Bool, true, false}
use lib.Ieee.{Float}
use Rattle.ieee754.specs.Ieee754.{signed}
use Rattle.binary64.proofs.Bounded.{Below, neg-below}

pub signed_below : (s : Bool) {k : ℕ} {x : Float} → Below k x → Below k (signed s x)
unfolding signed
signed_below true h = neg-below h
signed_below false h = h
