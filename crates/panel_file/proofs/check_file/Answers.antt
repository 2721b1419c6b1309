-- What the next test requires is what the tests before it have shown.
use mathlib.Core.Path.{sym, ◌∙◌}
use Rattle.mesh.proofs.Refusals.{missing_off}
use Rattle.panel_file.specs.PanelFile.{decode}
use Rattle.panel_file.proofs.Accepted.{marked, length_off, holds}
use Rattle.panel_file.proofs.check_file.Goals as goal

pub node_count-n-requires : goal.node_count-n-requires
node_count-n-requires c = (marked c.args.bytes.now (sym c.marks_differ.ensures ∙ c.if-marks_differ.false)).room

pub panel_count-p-requires : goal.panel_count-p-requires
panel_count-p-requires c = (marked c.args.bytes.now (sym c.marks_differ.ensures ∙ c.if-marks_differ.false)).room

pub invariant_of-file : goal.invariant_of-file
invariant_of-file c =
    let n = c.node_count-n.ensures in
    let p = c.panel_count-p.ensures in
    let long = length_off c.args.extra c.args.bytes.now _ _ _ n.value p.value c.length_due.ensures c.if-bytes-length_due.false in
    record { holds = holds _ _ _ _ n.value p.value n.upper_bound p.upper_bound long; counted = p.value }

pub some_zero_area-requires : goal.some_zero_area-requires
some_zero_area-requires c = (missing_off (decode c.args.bytes.now)).0 (sym c.some_misses_node.ensures ∙ c.if-some_misses_node.false)
