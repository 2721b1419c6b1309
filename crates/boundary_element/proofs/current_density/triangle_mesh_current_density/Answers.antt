-- A refusal leaves the outputs as they were; a call that is done is ready for the loop, which fills them.
use mathlib.Core.Path.{refl, sym, ◌∙◌}
use Rattle.std.proofs.lemmas.Result.{err_from_is_err_and}
use Rattle.refusal.proofs.Checks.{after-done}
use Rattle.refusal.proofs.Outcome.{after_refusal}
use Rattle.mesh.specs.Columns.{viewed}
use Rattle.boundary_element.proofs.Ready.{density_ready}
use Rattle.boundary_element.proofs.current_density.triangle_mesh_current_density.Goals as goal

pub returns-in_err-check_density : goal.returns-in_err-check_density
returns-in_err-check_density c =
    let p = err_from_is_err_and c.from_residual.result c.from_residual.ensures.1 in
    rw (p.1, p.2)
    (record {
      number = c.in_err-check_density.ensures;
      x = sym (after_refusal _ _ _);
      y = sym (after_refusal _ _ _);
      z = sym (after_refusal _ _ _);
    })

pub fill_densities-requires : goal.fill_densities-requires
fill_densities-requires c =
    let a = c.args in density_ready (viewed a.mesh.now) a.s.now a.jx.now a.jy.now a.jz.now (sym c.in_ok-check_density.ensures)

pub returns : goal.returns
returns c =
    let e = c.fill_densities.ensures in
    record {
      number = c.in_ok-check_density.ensures;
      x = e.0 ∙ sym (after-done 0 _ _ refl);
      y = e.1 ∙ sym (after-done 0 _ _ refl);
      z = e.2 ∙ sym (after-done 0 _ _ refl);
    }
