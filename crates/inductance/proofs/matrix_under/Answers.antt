-- A refusal leaves the output as it was; a call that is done is ready, and with every node marked the renewed matrix is the fresh one.
use mathlib.Core.Path.{sym}
use lib.ListN.{length-replicate}
use Rattle.std.proofs.lemmas.Result.{err_from_is_err_and}
use Rattle.refusal.proofs.Outcome.{never_0, after_refusal}
use Rattle.mesh.specs.Columns.{viewed}
use Rattle.inductance.proofs.Ready.{ready, assembled}
use Rattle.inductance.proofs.matrix_under.Goals as goal

pub returns-in_err-check_sized : goal.returns-in_err-check_sized
returns-in_err-check_sized c =
    let p = err_from_is_err_and c.from_residual.result c.from_residual.ensures.1 in
    rw (p.1, p.2) (record { refusal = c.in_err-check_sized.ensures; cells = sym (after_refusal _ _ _); symmetric = λ z. absurd (never_0 _ z) })

pub renew-requires : goal.renew-requires
renew-requires c =
    let w = ready (viewed c.args.mesh.now) c.args.out.now c.in_ok-check_sized.ensures in
    record {
      nodes_alike = w.nodes_alike;
      panels_alike = w.panels_alike;
      few_panels = w.few_panels;
      none_missing = w.none_missing;
      sized = record { small = w.sized.small; cells = w.sized.cells; enough = rw length-replicate w.sized.small };
    }

pub returns : goal.returns
returns c = assembled (viewed c.args.mesh.now) c.args.out.now c.in_ok-check_sized.ensures c.args.kind c.renew.ensures
