-- Shared by the definitions: tests over the numbers below a count, whether one of them passes, how many do and which is the first. Definitions only.
use Rattle.std.specs.Prelude.{Bool, false, ◌||◌, cond, List, [], ◌∷◌, ℕ, zero, suc, ◌+◌, get_or}

-- one of the list passes the test
unfoldable pub any_of : (ℕ → Bool) → List ℕ → Bool
any_of t [] = false
any_of t (k ∷ ks) = t k || any_of t ks

-- an array of three, element by element
abbrev pub triple : List ℕ → List ℕ
triple v = get_or v 0 0 ∷ get_or v 1 0 ∷ get_or v 2 0 ∷ []

-- some number below c passes the test
unfoldable pub some_below : (ℕ → Bool) → ℕ → Bool
some_below t zero = false
some_below t (suc c) = some_below t c || t c

-- how many numbers below c pass the test
unfoldable pub count_below : (ℕ → Bool) → ℕ → ℕ
count_below t zero = 0
count_below t (suc c) = count_below t c + cond (t c) 1 0

-- the first of j, j + 1, …, c numbers, that passes; j + c if none does
unfoldable pub next_from : (ℕ → Bool) → ℕ → ℕ → ℕ
next_from t j zero = j
next_from t j (suc c) = cond (t j) j (next_from t (suc j) c)
