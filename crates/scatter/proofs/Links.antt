-- The first marked number: in a row that is named its first column, in another the first marked one; and a step of the scan that finds it from above.
use mathlib.Core.Path.{◌≡◌, refl, sym, ap, ◌∙◌, subst}
use mathlib.Core.Bool.{Bool, true, cond}
use mathlib.Core.Logic.{◌⊎◌, inl, inr}
use mathlib.Core.List.{List}
use Prim.Native.Nat.{ℕ, zero, suc, ◌+◌, ◌-◌, ◌<◌, ◌≤◌}
use native.Mathlib.Nat.{eq-or-lt_of_le}
use native.Mathlib.Omega.{arith}
use lib.ListN.{length, get_or, set}
use lib.Seq.{get_or-set_same, get_or-set_other}
use Rattle.lists.specs.Counting.{next_from}
use Rattle.lists.proofs.First.{next_step}
use Rattle.scatter.specs.Renewal.{named}
use Rattle.scatter.specs.Links.{LinksNext}

-- ---- named columns of a row
pub row-marked : (r : ℕ → Bool) (row col c : ℕ) → r row ≡ true → col ≡ next_from (named r row) col c
unfolding next_from
row-marked r row col zero h = refl
row-marked r row col (suc c) h = rw h

-- ---- the scan from above
link_more : (t : ℕ → Bool) (n k : ℕ) (links : List ℕ) (v : ℕ)
    → k < length links → v ≡ next_from t k (n - k) → LinksNext (k + 1) t n links → LinksNext k t n (set links k v)
link_more t n k links v l e w = λ j a b. go j b (eq-or-lt_of_le a)
  where
    go : (j : ℕ) → j < n → (k ≡ j) ⊎ (k < j) → get_or (set links k v) j 0 ≡ next_from t j (n - j)
    go j b (inl z) = rw (← z) (get_or-set_same links k v 0 l ∙ e)
    go j b (inr z) = get_or-set_other links k j v 0 (λ q. absurd (omega (arith, z, q))) ∙ w j (omega (arith, z)) b

pub link_down : (t : ℕ → Bool) (n k : ℕ) (links : List ℕ) (first v : ℕ)
    → 0 < k
    → k ≤ n
    → k - 1 < length links
    → first ≡ next_from t k (n - k)
    → v ≡ cond (t (k - 1)) (k - 1) first
    → LinksNext k t n links
    → (v ≡ next_from t (k - 1) (n - (k - 1))) × LinksNext (k - 1) t n (set links (k - 1) v)
link_down t n k links first v p l b e f w =
    let z : k - 1 + 1 ≡ k = omega arith in
    let q : v ≡ next_from t (k - 1) (n - (k - 1)) =
    f ∙ ap (λ (i : ℕ). cond (t (k - 1)) (k - 1) i) (e ∙ ap (λ (j : ℕ). next_from t j (n - j)) (sym z)) ∙ next_step t n (k - 1) (omega arith) in
    (q, link_more t n (k - 1) links v b q (subst (λ (j : ℕ). LinksNext j t n links) (sym z) w))
