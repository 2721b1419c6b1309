-- `out` is the sum over the first i rows.
use mathlib.Core.Path.{◌≡◌}
use Rattle.linkage.specs.Flux.{interaction_to}
use Rattle.linkage.proofs.flux.add_interaction.Given as goal

abbrev pub invariant-loop-i : goal.invariant-loop-i
invariant-loop-i l = l.out ≡ interaction_to l.map l.values l.coefficients l.i
