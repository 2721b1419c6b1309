-- The three fields are put one behind the other, each of `width` bytes.
use native.Mathlib.Omega.{arith}
use Rattle.lists.proofs.Putting.{both}
use Rattle.panel_file.specs.LittleEndian.{to_little_endian, three_fields}
use Rattle.panel_file.proofs.Fields.{field-length}
use Rattle.panel_file_write.proofs.put_three.Goals as goal

pub put_number-third-requires : goal.put_number-third-requires
put_number-third-requires c =
    omega (arith, c.requires, field-length c.args.width c.args.a)

pub put_number-requires : goal.put_number-requires
put_number-requires c =
    omega (arith, c.requires, field-length c.args.width c.args.a, field-length c.args.width c.args.b)

pub returns : goal.returns
unfolding three_fields
returns c =
    let a = c.args in
    let first = c.put_number-second in
    let second = c.put_number-third in
    let third = c.put_number in
    let w = field-length a.width a.a in
    let v = field-length a.width a.b in
    both a.out.now a.from (to_little_endian a.width a.a) _ _ _ _ _ (omega (arith, c.requires, w)) first.ensures
    (both first.new.out first.result (to_little_endian a.width a.b) _ _ _ _ _ (omega (arith, c.requires, w, v, first.ensures.behind, first.auto.out)) second.ensures
    third.ensures)
