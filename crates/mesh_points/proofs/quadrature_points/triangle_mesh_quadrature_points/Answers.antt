-- The rule of the number decides: under a rule the call is `points_under`, with none nothing is written.
use mathlib.Core.Path.{refl, sym}
use Rattle.refusal.proofs.Outcome.{after_refusal}
use Rattle.refusal.specs.declared.Refusal.TheVariants.{NoSuchChoice}
use Rattle.mesh_points.proofs.quadrature_points.triangle_mesh_quadrature_points.Goals as goal

pub returns-in_default : goal.returns-in_default
returns-in_default c =
    rw (← c.quadrature_rule.ensures, c.in_default.is)
    (record {
      number = refl;
      x = sym (after_refusal NoSuchChoice _ _);
      y = sym (after_refusal NoSuchChoice _ _);
      z = sym (after_refusal NoSuchChoice _ _);
      weights = sym (after_refusal NoSuchChoice _ _);
    })
