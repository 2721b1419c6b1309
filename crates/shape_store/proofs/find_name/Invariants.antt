-- No place below `p` holds the name; the first that does decides, and none does at the end.
use mathlib.Core.Path.{◌≡◌}
use mathlib.Core.Bool.{false}
use mathlib.Core.List.{[]}
use Prim.Native.Nat.{ℕ, ◌<◌}
use Rattle.shape_store.specs.Store.{store_of, holds_name}
use Rattle.shape_store.proofs.find_name.Given as goal

abbrev pub invariant-loop-p : goal.invariant-loop-p
invariant-loop-p l = (k : ℕ) → k < l.p → holds_name (store_of l.marks l.names [] [] []) l.name k ≡ false
