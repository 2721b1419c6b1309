-- The matrix is in CR 1's form, and so is what a call leaves that is done: its cells are mirrored, and mirrored cells are alike at (a, b) and (b, a).
use mathlib.Core.Path.{◌≡◌, sym, ◌∙◌, subst}
use mathlib.Core.List.{List}
use Prim.Native.Nat.{ℕ}
use lib.Ieee.{Float}
use Rattle.refusal.specs.Checks.{after}
use Rattle.refusal.proofs.Checks.{after-done}
use Rattle.mesh.specs.Mesh.{Mesh, nnode}
use Rattle.scatter.specs.Mirror.{Symmetric}
use Rattle.scatter.proofs.Mirror.{mirrored-turned, square-symmetric}
use Rattle.pair_loops.specs.Additions.{Block}
use Rattle.inductance.specs.Matrix.{summed_cell, cell, matrix}

pub cell-turned : (f : Block) (m : Mesh) (a b : ℕ) → cell f m a b ≡ cell f m b a
unfolding cell
cell-turned f m a b = mirrored-turned (summed_cell f m) a b

pub matrix-symmetric : (f : Block) (m : Mesh) → Symmetric (nnode m) (matrix f m)
unfolding matrix
matrix-symmetric f m = square-symmetric (nnode m) (cell f m) (cell-turned f m)

-- a call that is done leaves the matrix
pub left-symmetric : (f : Block) (m : Mesh) (out : List Float) (r : ℕ) (out' : List Float) → out' ≡ after r (matrix f m) out → r ≡ 0 → Symmetric (nnode m) out'
left-symmetric f m out r out' e z = subst (Symmetric (nnode m)) (sym (e ∙ after-done r (matrix f m) out z)) (matrix-symmetric f m)
