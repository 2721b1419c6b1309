-- The replay: counts of cases, as words of 64 bits. Definitions only.
use Rattle.std.specs.Prelude.{◌≡◌, ℕ, zero, suc, ◌+◌, ◌%◌, ◌^◌, ◌<◌, Bool, true, false, cond, List, [], ◌∷◌, replicate, slice_index, slice_set}

-- no case of any kind
abbrev pub none : List ℕ
none = replicate 128 0

-- one more at k
abbrev pub counted : List ℕ → ℕ → List ℕ
counted l k = slice_set l k ((slice_index l k + 1) % 2 ^ 64)

-- the counts of differing cases after a case of kind k, which agrees or not
abbrev pub judged : Bool → List ℕ → ℕ → List ℕ
judged ok differ k = cond ok differ (counted differ k)

-- what a turn of a replay leaves: nothing is counted where there is no case; else some case, by its kind and its bytes, is counted
-- and held to what its bytes say. Which case was read no contract can say.
pub record Turn (agrees : ℕ → List ℕ → Bool) (cases differ : List ℕ) (r : Bool) (cases' differ' : List ℕ) : Type 0 where
  pub none : r ≡ false → (cases' ≡ cases) × (differ' ≡ differ)
  pub one : r ≡ true → (k : ℕ) × (b : List ℕ) × (k < 128) × (cases' ≡ counted cases k) × (differ' ≡ judged (agrees k b) differ k)

-- the sum of the first n
unfoldable pub total : List ℕ → ℕ → ℕ
total l zero = 0
total l (suc n) = (total l n + slice_index l n) % 2 ^ 64

-- the counts after some cases, each by its kind and its bytes, the last first
unfoldable pub cases_of : List (ℕ × List ℕ) → List ℕ
cases_of [] = none
cases_of (c ∷ cs) = counted (cases_of cs) c.0

unfoldable pub differ_of : (ℕ → List ℕ → Bool) → List (ℕ × List ℕ) → List ℕ
differ_of agrees [] = none
differ_of agrees (c ∷ cs) = judged (agrees c.0 c.1) (differ_of agrees cs) c.0

-- the counts are those of some cases
abbrev pub Reached : (ℕ → List ℕ → Bool) → List ℕ → List ℕ → Type 0
Reached agrees cases differ = (cs : List (ℕ × List ℕ)) × (cases ≡ cases_of cs) × (differ ≡ differ_of agrees cs)

-- so many of some cases differ
abbrev pub Replayed : (ℕ → List ℕ → Bool) → ℕ → Type 0
Replayed agrees n = (cs : List (ℕ × List ℕ)) × (n ≡ total (differ_of agrees cs) 128)
