-- What a call leaves, in the form that lent buffers are compared in: what is due if it is done, what was there on a refusal. A claim has the two cases apart; here they are joined by the number. And
-- the lengths of what is compared.
use mathlib.Core.Path.{◌≡◌, ap, refl, ◌∙◌}
use mathlib.Core.Bool.{Bool, true, false, cond}
use mathlib.Core.List.{List}
use Prim.Native.Nat.{ℕ, ◌+◌, ◌-◌, ◌≤◌}
use native.Mathlib.Omega.{arith}
use borrow.Author.Tests.{eqb-true, eqb-false}
use lib.Dec.{eqb}
use lib.ListN.{length, take}
use lib.Ieee.{Float}
use Rattle.refusal.specs.Checks.{after}
use Rattle.replay_words.proofs.Lent.{at_most}

-- a count, a column, a matrix or a store, by the two cases
pub by_number : {A : Type 0} (r : ℕ) (due held new : A) → (r ≡ 0 → new ≡ due) → ((r ≡ 0 → ⊥) → new ≡ held) → new ≡ cond (eqb r 0) due held
by_number {A} r due held new d h = go (eqb r 0) refl
  where
    go : (t : Bool) → eqb r 0 ≡ t → new ≡ cond (eqb r 0) due held
    go true e = rw e (d (eqb-true r 0 e))
    go false e = rw e (h (eqb-false r 0 e))

-- the same of a lent buffer
pub joined : {A : Type 0} (r : ℕ) (due held new : List A) → (r ≡ 0 → new ≡ due) → ((r ≡ 0 → ⊥) → new ≡ held) → new ≡ after r due held
unfolding after
joined r due held new d h = by_number r due held new d h

-- a matrix behind a mesh that ends at g is a part of n numbers
pub cells_short : (g n size : ℕ) (l : List Float) → n ≤ size → length (take (g + 1 + n - (g + 1)) l) ≤ size
cells_short g n size l h = at_most (g + 1 + n - (g + 1)) size l (omega arith)

-- the lengths of what the call leaves are those of what it was lent, and so of what the case has
pub as_long : (k nx ny nz n : ℕ) {x y z cells x0 y0 z0 cells0 : List Float}
    → k + 2 + length cells0 + length x0 + length y0 + length z0 ≤ 2048
    → (x ≡ x0) × (y ≡ y0) × (z ≡ z0) × (cells ≡ cells0)
    → nx ≡ length x
    → ny ≡ length y
    → nz ≡ length z
    → n ≡ length cells
    → (k + 2 + n + nx + ny + nz ≤ 2048) × ((nx ≡ length x0) × (ny ≡ length y0) × (nz ≡ length z0) × (n ≡ length cells0))
as_long k nx ny nz n h s ex ey ez en =
    let x = ex ∙ ap length s.0 in
    let y = ey ∙ ap length s.1 in
    let z = ez ∙ ap length s.2 in
    let e = en ∙ ap length s.3 in
    (omega (arith, h, x, y, z, e), (x, y, z, e))

-- a column is short enough to be copied
pub column_short : (n : ℕ) → n ≤ 48 → n ≤ 576
column_short n h = omega arith
