-- By cases on the rule of the number.
use mathlib.Core.Path.{sym, ◌∙◌}
use Rattle.node_move.specs.Move.{on_panels}
use Rattle.node_move.proofs.Refused.{claim_known, claim_unknown}
use Rattle.node_move.proofs.move_node.Goals as goal

pub returns-in_default : goal.returns-in_default
returns-in_default c =
    let a = c.args in claim_unknown a.rule (on_panels a.x.now a.y.now a.z.now a.panels.now) a.out.now a.v _ _ _ (sym c.quadrature_rule.ensures ∙ c.in_default.is)

pub returns : goal.returns
returns c =
    let a = c.args in
    claim_known a.rule c.in-Some.kind (on_panels a.x.now a.y.now a.z.now a.panels.now) a.out.now a.v _ _ _ _ _ _ _ (sym c.quadrature_rule.ensures ∙ c.in-Some.is) c.move_under.ensures
