-- An answer of `guided_bits` is fma's bits (`found_fma`); without one it is `unguided`'s.
use Rattle.std.proofs.Common.{T, sym, subst}
use lib.Ieee.{binary64, fits}
use Rattle.fused_guided.proofs.Laws.Guided.{found_number, found_fma}
use Rattle.fused_guided.proofs.guided.Goals as goal

pub float_from_bits-result : goal.float_from_bits-result
float_from_bits-result c = found_number c.args.x c.args.y c.args.z c.in-Some.bits c.in-Some.ensures.found

pub returns-in-Some : goal.returns-in-Some
returns-in-Some c =
    let held_x : T (fits binary64 c.args.x) = subst T (sym c.well_formed.0.1) tt in
    let held-y : T (fits binary64 c.args.y) = subst T (sym c.well_formed.1.0.1) tt in
    let held-z : T (fits binary64 c.args.z) = subst T (sym c.well_formed.1.1.0.1) tt in
    found_fma c.args.x c.args.y c.args.z c.in-Some.bits held_x held-y held-z c.in-Some.ensures.found
