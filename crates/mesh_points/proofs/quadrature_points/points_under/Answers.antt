-- A refusal leaves the outputs as they were; a call that is done is ready for the loop, which fills them.
use mathlib.Core.Path.{refl, sym, ◌∙◌}
use Rattle.std.proofs.lemmas.Result.{err_from_is_err_and}
use Rattle.refusal.proofs.Checks.{after-done}
use Rattle.refusal.proofs.Outcome.{after_refusal}
use Rattle.mesh.specs.Columns.{viewed}
use Rattle.mesh_points.proofs.Ready.{points_ready}
use Rattle.mesh_points.proofs.quadrature_points.points_under.Goals as goal

pub returns-in_err-check_points : goal.returns-in_err-check_points
returns-in_err-check_points c =
    let p = err_from_is_err_and c.from_residual.result c.from_residual.ensures.1 in
    rw (p.1, p.2)
    (record {
      number = c.in_err-check_points.ensures;
      x = sym (after_refusal _ _ _);
      y = sym (after_refusal _ _ _);
      z = sym (after_refusal _ _ _);
      weights = sym (after_refusal _ _ _);
    })

pub fill_points-requires : goal.fill_points-requires
fill_points-requires c =
    let a = c.args in points_ready a.kind (viewed a.mesh.now) a.px.now a.py.now a.pz.now a.pw.now (sym c.in_ok-check_points.ensures)

pub returns : goal.returns
returns c =
    let e = c.fill_points.ensures in
    record {
      number = c.in_ok-check_points.ensures;
      x = e.x ∙ sym (after-done 0 _ _ refl);
      y = e.y ∙ sym (after-done 0 _ _ refl);
      z = e.z ∙ sym (after-done 0 _ _ refl);
      weights = e.weights ∙ sym (after-done 0 _ _ refl);
    }
