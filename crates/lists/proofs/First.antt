-- The first number that passes a test: where it lies, that it passes and that those before it do not; and one step of a scan for it, from below or from above.
use mathlib.Core.Path.{◌≡◌, refl, sym, ◌∙◌}
use mathlib.Core.Bool.{Bool, true, false, cond, true≢false}
use mathlib.Core.Logic.{◌⊎◌, inl, inr}
use Prim.Native.Nat.{ℕ, zero, suc, ◌+◌, ◌-◌, ◌<◌, ◌≤◌}
use native.Mathlib.Nat.{eq-or-lt_of_le}
use native.Mathlib.Numerals.{add-one}
use native.Mathlib.Omega.{arith}
use Rattle.lists.specs.Counting.{next_from}

-- ---- where it lies
pub next_bounds : (t : ℕ → Bool) (j c : ℕ) → (j ≤ next_from t j c) × (next_from t j c ≤ j + c)
unfolding next_from
next_bounds t j zero = (omega arith, omega arith)
next_bounds t j (suc c) = go (t j) (next_bounds t (suc j) c)
  where
    go : (b : Bool)
        → (suc j ≤ next_from t (suc j) c) × (next_from t (suc j) c ≤ suc j + c)
        → (j ≤ cond b j (next_from t (suc j) c)) × (cond b j (next_from t (suc j) c) ≤ j + suc c)
    go true w = (omega arith, omega arith)
    go false w = (omega (arith, w.0), omega (arith, w.1))

pub next_above : (t : ℕ → Bool) (j c : ℕ) {k : ℕ} → k ≡ next_from t j c → j ≤ k
next_above t j c e = rw e (next_bounds t j c).0

-- one that is there passes
pub next_passes : (t : ℕ → Bool) (j c : ℕ) → next_from t j c < j + c → t (next_from t j c) ≡ true
unfolding next_from
next_passes t j zero l = absurd (omega (arith, l))
next_passes t j (suc c) l = go (t j) (next_passes t (suc j) c) refl l
  where
    go : (b : Bool)
        → (next_from t (suc j) c < suc j + c → t (next_from t (suc j) c) ≡ true)
        → t j ≡ b
        → cond b j (next_from t (suc j) c) < j + suc c
        → t (cond b j (next_from t (suc j) c)) ≡ true
    go true f e l = e
    go false f e l = f (omega (arith, l))

-- none before it passes
pub next_none : (t : ℕ → Bool) (j c k : ℕ) → j ≤ k → k < next_from t j c → t k ≡ false
unfolding next_from
next_none t j zero k l h = absurd (omega (arith, l, h))
next_none t j (suc c) k l h = go (t j) (next_none t (suc j) c k) refl h (eq-or-lt_of_le l)
  where
    go : (b : Bool)
        → (suc j ≤ k → k < next_from t (suc j) c → t k ≡ false)
        → t j ≡ b
        → k < cond b j (next_from t (suc j) c)
        → (j ≡ k) ⊎ (j < k)
        → t k ≡ false
    go true f e h w = absurd (omega (arith, l, h))
    go false f e h (inl z) = rw (← z) e
    go false f e h (inr z) = f z h

-- what holds at j and passes on over each number that does not pass the test holds at the first that does
pub next_keeps : (P : ℕ → Type 0) (t : ℕ → Bool) (j c : ℕ)
    → ((k : ℕ) → j ≤ k → k < j + c → t k ≡ false → P k → P (suc k)) → P j → P (next_from t j c)
unfolding next_from
next_keeps P t j zero step p = p
next_keeps P t j (suc c) step p = go (t j) (next_keeps P t (suc j) c (λ k a l f q. step k (omega (arith, a)) (omega (arith, l)) f q)) refl
  where
    go : (b : Bool) → (P (suc j) → P (next_from t (suc j) c)) → t j ≡ b → P (cond b j (next_from t (suc j) c))
    go true f e = p
    go false f e = f (step j (omega arith) (omega arith) e p)

pub next_alike : (s t : ℕ → Bool) (j c : ℕ) → ((k : ℕ) → s k ≡ t k) → next_from s j c ≡ next_from t j c
unfolding next_from
next_alike s t j zero e = refl
next_alike s t j (suc c) e = rw (e j, next_alike s t (suc j) c e)

-- ---- a step of a scan of the numbers below n
pub next_step : (t : ℕ → Bool) (n k : ℕ) → k < n → cond (t k) k (next_from t (k + 1) (n - (k + 1))) ≡ next_from t k (n - k)
unfolding next_from
next_step t n k l = let e : n - k ≡ suc (n - (k + 1)) = omega arith in rw (e, add-one k)

pub past_end : (t : ℕ → Bool) (n col : ℕ) → n ≤ col → col ≡ next_from t col (n - col)
unfolding next_from
past_end t n col l = let e : n - col ≡ 0 = omega arith in rw e

-- a scan that has passed over every number before the first that passes, or over all, has found it
module _ (t : ℕ → Bool) (n : ℕ) where
  pub first_is : (p : ℕ) → p < n → ((k : ℕ) → k < p → t k ≡ false) → t p ≡ true → p ≡ next_from t 0 n
  first_is p l none e =
      let q = next_from t 0 n in
      let below : q < p → ⊥ = λ h. true≢false (sym (next_passes t 0 n (omega (arith, h, l))) ∙ none q h) in
      let above : p < q → ⊥ = λ h. true≢false (sym e ∙ next_none t 0 n p (omega arith) h) in
      omega (arith, below, above)

  pub none_is : ((k : ℕ) → k < n → t k ≡ false) → n ≡ next_from t 0 n
  none_is none =
      let q = next_from t 0 n in
      let below : q < n → ⊥ = λ h. true≢false (sym (next_passes t 0 n (omega (arith, h))) ∙ none q h) in
      omega (arith, below, (next_bounds t 0 n).1)
