-- After k turns the sum is the definition's over the first k rows; a turn adds the next row, by the contract of its part.
use mathlib.Core.Path.{◌≡◌}
use Rattle.coupling.specs.Coupling as Spec
use Rattle.coupling.proofs.coupling.triangle_scalar_potential_regular.Given as goal

abbrev pub invariant-loop-k : goal.invariant-loop-k
invariant-loop-k l = l.out ≡ Spec.rows_to l.kind (Spec.potential_row l.source l.source_area l.obs) l.k
