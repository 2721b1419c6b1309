-- What a reader of the renewal is meant to know besides what is cited: two renewals one after the other are one.
use mathlib.Core.Path.{◌≡◌, refl, sym, ap, ◌∙◌}
use mathlib.Core.Bool.{Bool, true, false, ◌||◌, cond}
use mathlib.Core.List.{List}
use Prim.Native.Nat.{ℕ, ◌*◌, ◌/◌, ◌%◌, ◌<◌}
use lib.Seq.{ext_get_or}
use lib.Ieee.{Float, nan}
use Rattle.binary64.specs.Binary64.{at}
use Rattle.scatter.specs.Renewal.{named, renewed}
use Rattle.scatter.proofs.Cells.{length-renewed, at_renewed}

-- two renewals, where a cell that the second leaves is the same in both: one renewal of what either names
pub renewed_twice : (r₁ r₂ : ℕ → Bool) (g₁ g₂ : ℕ → ℕ → Float) (n : ℕ) (old : List Float)
    → ((a b : ℕ) → named r₂ a b ≡ false → g₂ a b ≡ g₁ a b)
    → renewed r₂ g₂ n (renewed r₁ g₁ n old) ≡ renewed (λ a. r₁ a || r₂ a) g₂ n old
renewed_twice r₁ r₂ g₁ g₂ n old e =
    ext_get_or nan _ _ (length-renewed r₂ g₂ n (renewed r₁ g₁ n old) ∙ sym (length-renewed (λ a. r₁ a || r₂ a) g₂ n old))
    (λ k l. let h : k < n * n = rw (length-renewed r₂ g₂ n (renewed r₁ g₁ n old)) at l in
    at_renewed r₂ g₂ n (renewed r₁ g₁ n old) k h
    ∙ ap (λ (x : Float). cond (named r₂ (k / n) (k % n)) (g₂ (k / n) (k % n)) x) (at_renewed r₁ g₁ n old k h)
    ∙ go (r₁ (k / n)) (r₁ (k % n)) (r₂ (k / n)) (r₂ (k % n)) (g₂ (k / n) (k % n)) (g₁ (k / n) (k % n)) (at old k) (e (k / n) (k % n))
    ∙ sym (at_renewed (λ a. r₁ a || r₂ a) g₂ n old k h))
  where
    go : (p q s t : Bool) (x y z : Float) → ((s || t) ≡ false → x ≡ y) → cond (s || t) x (cond (p || q) y z) ≡ cond (p || s || (q || t)) x z
    go true q true t x y z h = refl
    go false q true t x y z h = refl
    go true q false true x y z h = refl
    go false true false true x y z h = refl
    go false false false true x y z h = refl
    go true q false false x y z h = sym (h refl)
    go false true false false x y z h = sym (h refl)
    go false false false false x y z h = refl
