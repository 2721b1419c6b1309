-- Without a refusal the answer's values are written.
use mathlib.Core.Path.{sym, ap, ◌∙◌}
use Rattle.coupling.specs.Calls.{block_answered}
use Rattle.screens_panels.proofs.Lent.{passed}
use Rattle.screens_panels.proofs.pairs.screens_mutual_inductance_block.Goals as goal

pub returns-in-Ok : goal.returns-in-Ok
returns-in-Ok c =
    let k = c.triangle_basis_mutual_inductance_block-answer in
    passed _ _ _ (sym (ap block_answered c.in-Ok.is) ∙ rw (k.ensures, c.triangle-2.ensures, c.triangle.ensures))
