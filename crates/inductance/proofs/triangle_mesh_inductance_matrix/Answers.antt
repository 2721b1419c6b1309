-- By cases on the rule of the number.
use mathlib.Core.Path.{sym, ◌∙◌}
use Rattle.mesh.specs.Columns.{viewed}
use Rattle.inductance.proofs.Rules.{assembled_known, assembled_unknown}
use Rattle.inductance.proofs.triangle_mesh_inductance_matrix.Goals as goal

pub returns-in_default : goal.returns-in_default
returns-in_default c = let a = c.args in assembled_unknown a.rule (viewed a.mesh.now) a.out.now (sym c.quadrature_rule.ensures ∙ c.in_default.is)

pub returns : goal.returns
returns c = let a = c.args in assembled_known a.rule c.in-Some.kind (viewed a.mesh.now) a.out.now _ _ (sym c.quadrature_rule.ensures ∙ c.in-Some.is) c.matrix_under.ensures
