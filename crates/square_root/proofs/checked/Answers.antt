-- What passes is the root, by the contract of `passes`; a NaN is its own root.
use Rattle.std.proofs.Common.{T, sym, ap, ◌∙◌, subst}
use lib.Ieee.{Float, binary64, fits}
use lib.Ieee.Bits.{of_bits-to_bits}
use lib.Ieee.Compare.{differs_from_itself}
use Rattle.binary64.specs.Operations.{sqrt}
use Rattle.square_root.proofs.Special.{nan-root}
use Rattle.square_root.proofs.checked.Goals as goal

pub returns-then-x : goal.returns-then-x
unfolding sqrt
returns-then-x c = nan-root c.args.x (differs_from_itself c.args.x (subst T (sym c.if-x.true) tt))

pub returns-then-passes : goal.returns-then-passes
returns-then-passes c =
    let held : T (fits binary64 c.args.x) = subst T (sym c.well_formed.0.1) tt in
    c.passes.ensures.g_value (subst T (sym c.if-passes.true) tt) ∙ ap (λ (y : Float). sqrt y) (of_bits-to_bits binary64 c.args.x held)
