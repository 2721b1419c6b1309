-- The test of three lengths is off exactly if each is the one due: it is the or of one test a length.
use mathlib.Core.Path.{◌≡◌}
use mathlib.Core.Logic.{◌↔◌}
use mathlib.Core.Bool.{false}
use Prim.Native.Nat.{ℕ}
use Rattle.refusal.proofs.Tests.{or_off, differ_off}
use Rattle.lists.specs.Columns.{columns_differ, ColumnsDue}

pub columns_off : (n a b c : ℕ) → (columns_differ n a b c ≡ false) ↔ ColumnsDue n a b c
unfolding columns_differ
columns_off n a b c = (
  (λ e.
      let o = or_off _ _ e in
      let q = or_off _ _ o.1 in
      record { first = (differ_off a n).0 o.0; second = (differ_off b n).0 q.0; third = (differ_off c n).0 q.1 }),
  λ h. rw ((differ_off a n).1 h.first, (differ_off b n).1 h.second, (differ_off c n).1 h.third),
)
