-- What the tests below a count say without their recursion: which number passes, that none does, and that tests which agree count alike.
use mathlib.Core.Path.{◌≡◌, refl, sym, ◌∙◌}
use mathlib.Core.Logic.{◌⊎◌, inl, inr}
use mathlib.Core.Bool.{Bool, true, false, ◌||◌, cond, or-true, true≢false, false≢true}
use Prim.Native.Nat.{ℕ, zero, suc, ◌+◌, ◌<◌, ◌≤◌}
use native.Mathlib.Nat.{add-zero, eq-or-lt_of_le, le_of_suc-le-suc, not-suc-le-zero}
use native.Mathlib.Numerals.{add-one}
use native.Mathlib.Omega.{arith}
use Rattle.lists.specs.Counting.{some_below, count_below}

-- ---- one number more
pub some_more : (t : ℕ → Bool) (c : ℕ) → some_below t (c + 1) ≡ (some_below t c || t c)
unfolding some_below
some_more t c = rw add-one

pub count_on : (t : ℕ → Bool) (c : ℕ) → t c ≡ true → count_below t (c + 1) ≡ count_below t c + 1
unfolding count_below
count_on t c e = rw (add-one, e)

pub count_off : (t : ℕ → Bool) (c : ℕ) → t c ≡ false → count_below t (c + 1) ≡ count_below t c
unfolding count_below
count_off t c e = rw (add-one, e) (add-zero (count_below t c))

-- ---- some number below c passes: which, and the converse
pub some_where : (t : ℕ → Bool) (c : ℕ) → some_below t c ≡ true → (i : ℕ) × (i < c) × (t i ≡ true)
unfolding some_below
some_where t zero e = absurd (false≢true e)
some_where t (suc c) e = pick (some_below t c) (t c) (some_where t c) refl e
  where
    pick : (a b : Bool) → (a ≡ true → (i : ℕ) × (i < c) × (t i ≡ true)) → t c ≡ b → (a || b) ≡ true → (i : ℕ) × (i < suc c) × (t i ≡ true)
    pick true b f q r = let w = f refl in (w.0, omega (arith, w.1), w.2)
    pick false b f q r = (c, omega arith, q ∙ r)

pub some_at : (t : ℕ → Bool) (c i : ℕ) → i < c → t i ≡ true → some_below t c ≡ true
unfolding some_below
some_at t zero i l e = absurd (not-suc-le-zero l)
some_at t (suc c) i l e = go (λ k. some_at t c i k e) (eq-or-lt_of_le (le_of_suc-le-suc l))
  where
    go : (i < c → some_below t c ≡ true) → (i ≡ c) ⊎ (i < c) → (some_below t c || t c) ≡ true
    go f (inl k) = rw (← k, e) (or-true (some_below t i))
    go f (inr k) = rw (f k)

-- ---- none does
pub none_at : (t : ℕ → Bool) (c i : ℕ) → some_below t c ≡ false → i < c → t i ≡ false
none_at t c i e l = go (t i) refl
  where
    go : (b : Bool) → t i ≡ b → t i ≡ false
    go true k = absurd (true≢false (sym (some_at t c i l k) ∙ e))
    go false k = k

pub none_below : (t : ℕ → Bool) (c : ℕ) → ((i : ℕ) → i < c → t i ≡ false) → some_below t c ≡ false
none_below t c all = go (some_below t c) refl
  where
    go : (b : Bool) → some_below t c ≡ b → some_below t c ≡ false
    go true k = let w = some_where t c k in absurd (true≢false (sym w.2 ∙ all w.0 w.1))
    go false k = k

-- ---- two tests that agree below c
pub some_alike : (s t : ℕ → Bool) (c : ℕ) → ((i : ℕ) → i < c → s i ≡ t i) → some_below s c ≡ some_below t c
unfolding some_below
some_alike s t zero all = refl
some_alike s t (suc c) all = rw (some_alike s t c (λ i l. all i (omega arith)), all c (omega arith))

pub count_alike : (s t : ℕ → Bool) (c : ℕ) → ((i : ℕ) → i < c → s i ≡ t i) → count_below s c ≡ count_below t c
unfolding count_below
count_alike s t zero all = refl
count_alike s t (suc c) all = rw (count_alike s t c (λ i l. all i (omega arith)), all c (omega arith))

pub count_bound : (t : ℕ → Bool) (c : ℕ) → count_below t c ≤ c
unfolding count_below
count_bound t zero = omega arith
count_bound t (suc c) = go (t c) (count_bound t c)
  where
    go : (b : Bool) → count_below t c ≤ c → count_below t c + cond b 1 0 ≤ suc c
    go true h = omega arith
    go false h = omega arith
