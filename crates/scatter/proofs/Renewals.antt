-- Laws of renewed matrices, for any cells g and any set of marked nodes: only marks of nodes count, a whole renewal is g's matrix, g's matrix renewed to g' is g''s where they agree
-- outside the named cells, and two renewals are one.
use mathlib.Core.Path.{◌≡◌, refl, sym, ap, ap₂, ◌∙◌}
use mathlib.Core.Bool.{Bool, true, false, ◌||◌, cond}
use mathlib.Core.List.{List}
use Prim.Native.Nat.{ℕ, ◌*◌, ◌/◌, ◌%◌, ◌<◌}
use lib.Seq.{ext_get_or}
use lib.Ieee.{Float, nan}
use Rattle.binary64.specs.Binary64.{at}
use Rattle.scatter.specs.Entries.{square}
use Rattle.scatter.specs.Renewal.{named, renewed}
use Rattle.scatter.proofs.Cells.{square_ext, at_square, length-renewed, at_renewed}
use Rattle.scatter.proofs.Steps.{row_small, column-small}

pub renewed-same : (r r' : ℕ → Bool) (g : ℕ → ℕ → Float) (n : ℕ) (old : List Float)
    → ((a : ℕ) → a < n → r a ≡ r' a) → renewed r g n old ≡ renewed r' g n old
renewed-same r r' g n old e =
    ext_get_or nan (renewed r g n old) (renewed r' g n old) (length-renewed r g n old ∙ sym (length-renewed r' g n old))
    (λ k l. let h : k < n * n = rw (length-renewed r g n old) at l in
    at_renewed r g n old k h
    ∙ ap₂ (λ (t u : Bool). cond (t || u) (g (k / n) (k % n)) (at old k)) (e (k / n) (row_small refl h)) (e (k % n) (column-small refl h))
    ∙ sym (at_renewed r' g n old k h))

-- with every node marked the whole matrix is g's
pub renewed_whole : (r : ℕ → Bool) (g : ℕ → ℕ → Float) (n : ℕ) (old : List Float) → ((a : ℕ) → a < n → r a ≡ true) → renewed r g n old ≡ square n g
renewed_whole r g n old e =
    square_ext n g (renewed r g n old) (length-renewed r g n old)
    (λ k h. at_renewed r g n old k h ∙ ap (λ (t : Bool). cond (t || r (k % n)) (g (k / n) (k % n)) (at old k)) (e (k / n) (row_small refl h)))

-- where g and g' agree outside the named cells, g's matrix renewed is g''s
pub renewed-from : (r : ℕ → Bool) (g g' : ℕ → ℕ → Float) (n : ℕ)
    → ((a b : ℕ) → named r a b ≡ false → g' a b ≡ g a b) → renewed r g' n (square n g) ≡ square n g'
renewed-from r g g' n e =
    square_ext n g' (renewed r g' n (square n g)) (length-renewed r g' n (square n g))
    (λ k h. at_renewed r g' n (square n g) k h
    ∙ ap (λ (x : Float). cond (named r (k / n) (k % n)) (g' (k / n) (k % n)) x) (at_square n g k h)
    ∙ go (k / n) (k % n) (named r (k / n) (k % n)) refl)
  where
    go : (a b : ℕ) (t : Bool) → named r a b ≡ t → cond t (g' a b) (g a b) ≡ g' a b
    go a b true h = refl
    go a b false h = sym (e a b h)
