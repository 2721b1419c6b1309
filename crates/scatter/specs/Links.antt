-- Inner form: from each place the first number up that passes a test, so that a scan goes from one to the next and not over all. Definitions only.
use Rattle.std.specs.Prelude.{Bool, ◌≡◌, List, ℕ, ◌-◌, ◌<◌, ◌≤◌, get_or}
use Rattle.lists.specs.Counting.{next_from}

-- at each number from k up and below n stands the first from it up that passes, n if none does
abbrev pub LinksNext : ℕ → (ℕ → Bool) → ℕ → List ℕ → Type 0
LinksNext k t n links = (j : ℕ) → k ≤ j → j < n → get_or links j 0 ≡ next_from t j (n - j)
