-- After i turns the lines of the first i panels are in place.
use Rattle.panel_file.specs.LittleEndian.{rows_from}
use Rattle.lists.specs.Putting.{Put}
use Rattle.density_text.specs.Text.{panel_line}
use Rattle.density_text.proofs.put_panels.Given as goal

abbrev pub invariant-loop-i : goal.invariant-loop-i
invariant-loop-i l = Put l.initial.out l.from (rows_from (panel_line l.input.bytes.now) 0 l.i) l.out l.to
