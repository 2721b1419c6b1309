-- After i turns both quotients of the first i points are in place; the two places that a turn writes are seven apart.
use mathlib.Core.Path.{◌≡◌}
use Prim.Native.Nat.{ℕ, ◌+◌, ◌<◌}
use lib.ListN.{length}
use Rattle.binary64.specs.Binary64.{at, ◌⊕◌, ◌⊘◌}
use Rattle.potential_lanes.proofs.slopes.Given as goal

abbrev pub invariant-loop-i : goal.invariant-loop-i
invariant-loop-i l = (length l.out ≡ 14) × ((j : ℕ) → j < l.i → (at l.out j ≡ (at l.start j ⊕ l.extent) ⊘ at l.transverse j) × (at l.out (j + 7) ≡ at l.start j ⊘ at l.transverse j))
