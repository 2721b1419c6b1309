-- A number's pattern is at most an infinity's, without the sign (`number-pattern`).
use Rattle.std.proofs.Common.{T, sym, subst}
use lib.Ieee.{binary64, fits}
use Rattle.binary64.proofs.Pattern.{self_equal}
use Rattle.square_root.proofs.Test.{number-pattern}
use Rattle.square_root.proofs.magnitude_or_one.Goals as goal

pub returns-clause-upper_bound : goal.returns-clause-upper_bound
returns-clause-upper_bound c =
    let held : T (fits binary64 c.args.x) = subst T (sym c.well_formed.0.1) tt in
    let x = c.args.x in number-pattern x held (self_equal x c.if-x.false)
