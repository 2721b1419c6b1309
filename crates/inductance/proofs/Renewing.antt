-- Named cells cleared, the additions on and above the diagonal made and the cells below it copied: the renewed matrix.
use mathlib.Core.Path.{◌≡◌, ap, ◌∙◌}
use mathlib.Core.Bool.{Bool}
use mathlib.Core.List.{List}
use Prim.Native.Nat.{ℕ}
use lib.Ieee.{Float}
use Rattle.binary64.specs.Binary64.{plus_zero}
use Rattle.mesh.specs.Mesh.{Mesh}
use Rattle.scatter.specs.Renewal.{renewing, renewed, Within}
use Rattle.scatter.specs.Mirror.{copied_below}
use Rattle.scatter.proofs.Mirror.{renew_all}
use Rattle.pair_loops.specs.Additions.{Block, entries}
use Rattle.inductance.specs.Matrix.{summed_cell, cell}

pub loops_done : (r : ℕ → Bool) (n : ℕ) (f : Block) (m : Mesh) (old start added new : List Float)
    → Within n (entries f m)
    → start ≡ renewed r (λ a b. plus_zero) n old
    → added ≡ renewing r n start (entries f m)
    → new ≡ copied_below r n added
    → new ≡ renewed r (cell f m) n old
unfolding cell summed_cell
loops_done r n f m old start added new w s e c = c ∙ ap (copied_below r n) e ∙ renew_all r n (entries f m) old start w s
