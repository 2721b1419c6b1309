-- As in triangle_scalar_potential_regular: the sum over the first k rows, with one row more a turn.
use mathlib.Core.Path.{◌≡◌}
use Rattle.coupling.specs.Coupling as Spec
use Rattle.coupling.proofs.coupling.geometric_coupling_regular.Given as goal

abbrev pub invariant-loop-k : goal.invariant-loop-k
invariant-loop-k l = l.out ≡ Spec.rows_to l.kind (Spec.integral_row l.target l.target_area (Spec.triangle_scalar_potential_regular l.kind l.source)) l.k
