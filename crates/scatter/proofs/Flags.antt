-- None is flagged if no pair of panel 0 has a flagged panel.
use mathlib.Core.Path.{◌≡◌, sym, ◌∙◌}
use mathlib.Core.Bool.{Bool, false}
use mathlib.Core.List.{List}
use Prim.Native.Nat.{ℕ, ◌-◌, ◌<◌, ◌≤◌}
use native.Mathlib.Omega.{arith}
use Rattle.lists.specs.Counting.{any_of, next_from}
use Rattle.lists.proofs.First.{next_none}
use Rattle.mesh.specs.Mesh.{Mesh, ntri, triangle_indices}
use Rattle.refusal.proofs.Tests.{or_off}
use Rattle.scatter.specs.Renewal.{named, marked}
use Rattle.scatter.specs.Flags.{Flagged}

pub none-flagged : (m : Mesh) (marks flags : List Bool) (first : ℕ)
    → Flagged (ntri m) m marks flags
    → first ≡ next_from (named (marked flags) 0) 0 (ntri m - 0)
    → ntri m ≤ first
    → (k : ℕ) → k < ntri m → any_of (marked marks) (triangle_indices m k) ≡ false
none-flagged m marks flags first w e l = λ k b. sym (w k b) ∙ (or_off (marked flags 0) (marked flags k) (next_none (named (marked flags) 0) 0 (ntri m - 0) k (omega arith) (omega (arith, b, l, e)))).1
