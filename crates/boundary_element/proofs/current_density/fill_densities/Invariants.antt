-- After i turns the first i numbers of each column are those of the definition.
use mathlib.Core.List.{List}
use Prim.Native.Nat.{ℕ}
use lib.Ieee.{Float}
use Rattle.binary64.specs.Binary64.{at}
use Rattle.lists.proofs.Runs.{RunTo}
use Rattle.mesh.specs.Columns.{viewed}
use Rattle.mesh.specs.Mesh.{Mesh, ntri}
use Rattle.boundary_element.specs.CurrentDensity.{panel_density}
use Rattle.boundary_element.proofs.current_density.fill_densities.Given as goal

-- component k of the panels' densities
abbrev pub component : Mesh → List Float → ℕ → ℕ → Float
component m s k i = at (panel_density m s i) k

abbrev pub invariant-loop-i : goal.invariant-loop-i
invariant-loop-i l = RunTo l.initial.jx 0 (ntri (viewed l.mesh)) (component (viewed l.mesh) l.s 0) l.i l.jx
    × RunTo l.initial.jy 0 (ntri (viewed l.mesh)) (component (viewed l.mesh) l.s 1) l.i l.jy
    × RunTo l.initial.jz 0 (ntri (viewed l.mesh)) (component (viewed l.mesh) l.s 2) l.i l.jz
