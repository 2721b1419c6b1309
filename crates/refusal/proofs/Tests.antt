-- A test that is false exactly under a condition is true exactly without it; of two tests; of two lengths.
use mathlib.Core.Path.{◌≡◌, refl, sym, ◌∙◌}
use mathlib.Core.Logic.{◌↔◌, ◌⊎◌, inl, inr}
use mathlib.Core.Bool.{Bool, true, false, not, ◌||◌, true≢false}
use Prim.Native.Nat.{ℕ}
use borrow.Author.Tests.{eqb-true, eq-eqb, not-false}
use lib.Dec.{eqb}

-- ---- a test that is false exactly under a condition is true exactly without it
module _ (t : Bool) (P : Type 0) (off : (t ≡ false) ↔ P) where
  pub on : (t ≡ true) ↔ (P → ⊥)
  on = (λ e p. true≢false (sym e ∙ off.1 p), λ n. go t refl n)
    where
      go : (b : Bool) → t ≡ b → (P → ⊥) → t ≡ true
      go true e n = e
      go false e n = absurd (n (off.0 e))

-- ---- of two tests
pub or_off : (a b : Bool) → (a || b) ≡ false → (a ≡ false) × (b ≡ false)
or_off true b e = absurd (true≢false e)
or_off false b e = (refl, e)

pub or_on : (a b : Bool) → (a || b) ≡ true → (a ≡ true) ⊎ (b ≡ true)
or_on true b e = inl refl
or_on false b e = inr e

pub differ_off : (a b : ℕ) → (not (eqb a b) ≡ false) ↔ (a ≡ b)
differ_off a b = (λ e. eqb-true a b (not-false (eqb a b) e), λ e. rw (eq-eqb a b e))
