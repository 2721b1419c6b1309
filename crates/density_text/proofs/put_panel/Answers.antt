-- The parts of the line are put one behind the other.
use native.Mathlib.Omega.{arith}
use Rattle.lists.proofs.Putting.{both}
use Rattle.binary64.specs.Binary64.{at}
use Rattle.density_text.specs.Text.{decimal, field, line}
use Rattle.density_text.proofs.Numerals.{decimal_short, field_length}
use Rattle.density_text.proofs.put_panel.Goals as goal

pub returns : goal.returns
unfolding line
returns c =
    let a = c.put_decimal-a in
    let b = c.put_field-b in
    let d = c.put_field-c in
    let e = c.put_field-d in
    let f = c.put in
    both c.args.out.now c.args.from (decimal c.args.i) _ _ _ _ _ (omega (arith, c.requires, decimal_short c.args.i, field_length (at c.args.j 0), field_length (at c.args.j 1), field_length (at c.args.j 2))) a.ensures
    (both a.new.out a.result (field (at c.args.j 0)) _ _ _ _ _ (omega (arith, c.requires, decimal_short c.args.i, field_length (at c.args.j 0), field_length (at c.args.j 1), field_length (at c.args.j 2))) b.ensures
    (both b.new.out b.result (field (at c.args.j 1)) _ _ _ _ _ (omega (arith, c.requires, decimal_short c.args.i, field_length (at c.args.j 0), field_length (at c.args.j 1), field_length (at c.args.j 2))) d.ensures
    (both d.new.out d.result (field (at c.args.j 2)) _ _ _ _ _ (omega (arith, c.requires, decimal_short c.args.i, field_length (at c.args.j 0), field_length (at c.args.j 1), field_length (at c.args.j 2))) e.ensures
    f.ensures)))
