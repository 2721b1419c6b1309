-- The parts of the line are put one behind the other.
use mathlib.Core.List.{[], ◌∷◌}
use native.Mathlib.Omega.{arith}
use Rattle.lists.proofs.Putting.{both}
use Rattle.density_text.specs.Text.{decimal, first_line}
use Rattle.density_text.proofs.Numerals.{decimal_short}
use Rattle.density_text.proofs.put_first.Goals as goal

pub returns : goal.returns
unfolding first_line
returns c =
    let a = c.put-a in
    let b = c.put_decimal-b in
    let d = c.put-c in
    let e = c.put_decimal-d in
    let f = c.put in
    both c.args.out.now 0 (80 ∷ 78 ∷ 76 ∷ 32 ∷ 49 ∷ 32 ∷ []) _ _ _ _ _ (omega (arith, c.requires, decimal_short c.args.n, decimal_short c.args.p)) a.ensures
    (both a.new.out a.result (decimal c.args.n) _ _ _ _ _ (omega (arith, c.requires, decimal_short c.args.n, decimal_short c.args.p)) b.ensures
    (both b.new.out b.result (32 ∷ []) _ _ _ _ _ (omega (arith, c.requires, decimal_short c.args.n, decimal_short c.args.p)) d.ensures
    (both d.new.out d.result (decimal c.args.p) _ _ _ _ _ (omega (arith, c.requires, decimal_short c.args.n, decimal_short c.args.p)) e.ensures
    f.ensures)))
