-- What the next test requires is what the tests before it have shown.
use mathlib.Core.Path.{sym, ◌∙◌}
use Rattle.mesh.specs.Columns.{viewed}
use Rattle.mesh.proofs.Refusals.{nodes_off, panels_off, missing_off}
use Rattle.mesh.proofs.check_mesh_within.Goals as goal

pub some_misses_node-requires : goal.some_misses_node-requires
some_misses_node-requires c =
    let p = (panels_off (viewed c.args.mesh.now)).0 (sym c.lengths_differ-2.ensures ∙ c.if-lengths_differ-2.false) in record { t1_long = p.t1_long; t2_long = p.t2_long }

pub some_zero_area-requires : goal.some_zero_area-requires
some_zero_area-requires c =
    let m = viewed c.args.mesh.now in
    record {
      node_columns_alike = (nodes_off m).0 (sym c.lengths_differ.ensures ∙ c.if-lengths_differ.false);
      panel_columns_alike = (panels_off m).0 (sym c.lengths_differ-2.ensures ∙ c.if-lengths_differ-2.false);
      none_missing = (missing_off m).0 (rw (← c.nnode-2.ensures) (sym c.some_misses_node.ensures ∙ c.if-some_misses_node.false));
    }
