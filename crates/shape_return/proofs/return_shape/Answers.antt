-- By cases on the rule of the number.
use mathlib.Core.Path.{sym, ◌∙◌}
use Rattle.node_move.specs.Move.{on_panels}
use Rattle.shape_store.specs.Store.{viewed_store}
use Rattle.shape_return.proofs.Refused.{claim_known, claim_unknown}
use Rattle.shape_return.proofs.return_shape.Goals as goal

pub returns-in_default : goal.returns-in_default
returns-in_default c =
    let a = c.args in
    claim_unknown a.rule (on_panels a.x.now a.y.now a.z.now a.panels.now) (viewed_store a.store.now) a.name.now a.out.now (sym c.quadrature_rule.ensures ∙ c.in_default.is)

pub returns : goal.returns
returns c =
    let a = c.args in
    claim_known a.rule (on_panels a.x.now a.y.now a.z.now a.panels.now) (viewed_store a.store.now) a.name.now a.out.now c.in-Some.kind _ _ _ _ (sym c.quadrature_rule.ensures ∙ c.in-Some.is) c.return_under.ensures
