-- What passes the test has the root's pattern (`passed`), so it is the root.
use Rattle.std.proofs.Common.{ℕ, T, sym, ap, ◌∙◌, subst, arith}
use lib.Ieee.{binary64, of_bits, to_bits, fits}
use lib.Ieee.Bits.{of_bits-to_bits, of_bits-fits}
use Rattle.binary64.specs.Operations.{square_root, sqrt}
use Rattle.binary64.proofs.Root.Value.{sqrt_fits}
use Rattle.square_root.proofs.Test.{passed}
use Rattle.square_root.proofs.passes.Goals as goal

pub returns-clause-g_value : goal.returns-clause-g_value
unfolding sqrt
returns-clause-g_value c =
    let held : T (fits binary64 c.args.g) = subst T (sym c.well_formed.1.0.1) tt in
    let b = c.args.b in
    let g = c.args.g in
    let x = of_bits binary64 b in
    λ t. sym (of_bits-to_bits binary64 g held)
    ∙ ap (λ (n : ℕ). of_bits binary64 n) (passed b (to_bits binary64 g) (omega arith) (omega arith) (subst T c.is_root.ensures t))
    ∙ of_bits-to_bits binary64 (square_root binary64 x) (sqrt_fits binary64 x (of_bits-fits binary64 b))
