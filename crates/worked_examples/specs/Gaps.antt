-- The program `worked_examples`: how far two numbers are apart in units in the last place, and the most over a table. Definitions only.
use Rattle.std.specs.Prelude.{◌≡◌, cond, List, [], ℕ, zero, suc, ◌+◌, ◌^◌, ◌-◌, ltb, get_or, Float}
use Rattle.binary64.specs.Binary64.{at}
use Rattle.ieee754.specs.Ieee754.{canonical_bits}

-- the place of a bit pattern in the order of the numbers, both zeros at 2^63
unfoldable pub rank : ℕ → ℕ
rank b = cond (ltb b (2 ^ 63)) (2 ^ 63 + b) (2 ^ 64 - b)

unfoldable pub gap : Float → Float → ℕ
gap x y =
    let a = rank (canonical_bits x) in
    let b = rank (canonical_bits y) in
    cond (ltb a b) (b - a) (a - b)

unfoldable pub worse : ℕ → ℕ → ℕ
worse a b = cond (ltb a b) b a

-- a call's result is f's, by the call's arguments
abbrev pub Computes : (Float → Float → Float → Type 0) → (Float → Float → Float) → Type 0
Computes post f = (a b r : Float) → post a b r → r ≡ f a b

-- a table's row: two arguments, then the value
unfoldable pub row_gap : (Float → Float → Float) → List Float → ℕ
row_gap f row = gap (f (at row 0) (at row 1)) (at row 2)

-- the worst of the first k rows
unfoldable pub worst : (Float → Float → Float) → List (List Float) → ℕ → ℕ
worst f table zero = 0
worst f table (suc k) = worse (worst f table k) (row_gap f (get_or table k []))
