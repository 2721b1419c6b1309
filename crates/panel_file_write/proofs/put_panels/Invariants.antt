-- After i turns the rows of the first i panels are in place.
use lib.ListN.{length}
use Rattle.mesh.specs.Columns.{viewed_panels}
use Rattle.panel_file.specs.PanelFile.{encode_panel}
use Rattle.panel_file_write.proofs.Rows.{RowsTo}
use Rattle.panel_file_write.proofs.put_panels.Given as goal

abbrev pub invariant-loop-i : goal.invariant-loop-i
invariant-loop-i l = RowsTo l.initial.out l.from (encode_panel (viewed_panels l.panels)) (length l.panels.t0.now) l.i l.out l.to
