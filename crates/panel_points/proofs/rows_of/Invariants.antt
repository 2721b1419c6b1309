-- After k turns each of the four lists has its number of the first k rows; a turn writes the next row's into all four.
use mathlib.Core.Path.{◌≡◌}
use mathlib.Core.List.{List}
use Prim.Native.Nat.{◌≤◌}
use lib.Ieee.{Float}
use Rattle.binary64.specs.Binary64.{at}
use Rattle.panel_points.specs.Points as Spec
use Rattle.panel_points.proofs.rows_of.Given as goal

abbrev pub invariant-loop-k : goal.invariant-loop-k
invariant-loop-k l = (l.count ≤ 7)
    × (l.first ≡ Spec.column_to l.kind Spec.rest l.k)
    × (l.second ≡ Spec.column_to l.kind (λ (q : List Float). at q 1) l.k)
    × (l.third ≡ Spec.column_to l.kind (λ (q : List Float). at q 2) l.k)
    × (l.weight ≡ Spec.column_to l.kind (λ (q : List Float). at q 0) l.k)
