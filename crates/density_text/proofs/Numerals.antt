-- The decimal digits that `io` writes are the definition's: a number below 1,000 has one, two or three, as the tests say. Assumes nothing.
use mathlib.Core.Path.{◌≡◌, refl, ap, ◌∙◌}
use mathlib.Core.Bool.{Bool, true, false, cond}
use mathlib.Core.List.{List, [], ◌∷◌, ◌++◌}
use Prim.Native.Nat.{ℕ, zero, suc, ◌+◌, ◌-◌, ◌/◌, ◌^◌, ◌≤◌, ◌<◌}
use native.Mathlib.Nat.{le_trans, pow-le-pow_right}
use native.Mathlib.Numerals.{add-one}
use native.Mathlib.Omega.{arith}
use borrow.Author.Tests.{ltb-true, ltb-false, lt-ltb, le-ltb}
use lib.Dec.{ltb}
use lib.Ieee.{Float}
use lib.ListN.{length, length-append}
use Rattle.binary64.specs.Binary64.{at}
use Rattle.io.specs.Digits.{last_digits, IsDigitCount}
use Rattle.ieee754.specs.Ieee754.{canonical_bits}
use Rattle.refusal.specs.Outcome.{number}
use Rattle.refusal.specs.declared.Refusal.{Refusal}
use Rattle.refusal.specs.declared.Refusal.TheVariants as R
use Rattle.density_text.specs.Text.{decimal, field, line, first_line}

-- the places of a number below 1,000
places : ℕ → ℕ
places n = cond (ltb n 10) 1 (cond (ltb n 100) 2 3)

power : (i j : ℕ) → i ≤ j → 10 ^ i ≤ 10 ^ j
power i j h = let p : 0 < 10 = omega arith in pow-le-pow_right p h

fewest : (n k : ℕ) → n < 1000 → IsDigitCount 10 1 n k → k ≡ places n
unfolding places
fewest n zero l f = absurd (none f.0)
  where
    none : 1 ≤ 0 → ⊥
    none h = omega arith
fewest n (suc zero) l f = rw (lt-ltb n 10 f.1)
fewest n (suc (suc zero)) l f = let h : 1 < 2 = omega arith in rw (le-ltb n 10 (f.2 h), lt-ltb n 100 f.1)
fewest n (suc (suc (suc zero))) l f =
    let h : 1 < 3 = omega arith in
    let a : 10 ≤ n = le_trans (power 1 2 (omega arith)) (f.2 h) in
    rw (le-ltb n 10 a, le-ltb n 100 (f.2 h))
fewest n (suc (suc (suc (suc k)))) l f = absurd (large (le_trans (power 3 (suc (suc (suc (suc k))) - 1) (omega arith)) (f.2 (omega arith))))
  where
    large : 1000 ≤ n → ⊥
    large h = omega arith

pub decimal_is : (n k : ℕ) → n < 1000 → IsDigitCount 10 1 n k → last_digits 10 k n ≡ decimal n
unfolding decimal places
decimal_is n k l f = ap (λ (j : ℕ). last_digits 10 j n) (fewest n k l f)

pub digits-length : (b k n : ℕ) → length (last_digits b k n) ≡ k
digits-length b zero n = refl
digits-length b (suc k) n = length-append (last_digits b k (n / b)) _ ∙ ap (λ (x : ℕ). x + 1) (digits-length b k (n / b)) ∙ add-one k

pub decimal_short : (n : ℕ) → length (decimal n) ≤ 3
unfolding decimal
decimal_short n = go (ltb n 10) (ltb n 100)
  where
    go : (a b : Bool) → length (last_digits 10 (cond a 1 (cond b 2 3)) n) ≤ 3
    go true b = omega (arith, digits-length 10 1 n)
    go false true = omega (arith, digits-length 10 2 n)
    go false false = omega (arith, digits-length 10 3 n)

-- sixteen places asked for, and a word needs no more
pub sixteen : (n k : ℕ) → n < 2 ^ 64 → IsDigitCount 16 16 n k → k ≡ 16
sixteen n k h f = go (ltb 16 k) refl
  where
    least : 16 ^ 16 ≤ n → ⊥
    least g = omega arith

    go : (t : Bool) → ltb 16 k ≡ t → k ≡ 16
    go false e = omega (arith, f.0, ltb-false 16 k e)
    go true e =
        let l : 16 < k = ltb-true 16 k e in
        let p : 0 < 16 = omega arith in
        let j : 16 ≤ k - 1 = omega arith in
        absurd (least (le_trans (pow-le-pow_right p j) (f.2 l)))

pub field_length : (x : Float) → length (field x) ≡ 17
unfolding field
field_length x = ap suc (digits-length 16 16 (canonical_bits x))

pub line_short : (i : ℕ) (j : List Float) → length (line i j) ≤ 55
unfolding line
line_short i j =
    let x = field (at j 0) in
    let y = field (at j 1) in
    let z = field (at j 2) in
    omega
    (arith, length-append (decimal i) (x ++ (y ++ (z ++ (10 ∷ [])))), length-append x (y ++ (z ++ (10 ∷ []))), length-append y (z ++ (10 ∷ [])), length-append z (10 ∷ []), decimal_short i, field_length (at j 0), field_length (at j 1), field_length (at j 2))

pub first_short : (n p : ℕ) → length (first_line n p) ≤ 14
unfolding first_line
first_short n p =
    let y = (32 ∷ []) ++ (decimal p ++ (10 ∷ [])) in
    omega
    (arith, length-append (80 ∷ 78 ∷ 76 ∷ 32 ∷ 49 ∷ 32 ∷ []) (decimal n ++ y), length-append (decimal n) y, length-append (32 ∷ []) (decimal p ++ (10 ∷ [])), length-append (decimal p) (10 ∷ []), decimal_short n, decimal_short p)

-- ---- the number of a refusal has two digits at most
pub refusal_short : (r : Refusal) → number r < 1000
refusal_short R.NodeColumns = omega arith
refusal_short R.PanelColumns = omega arith
refusal_short R.MissingNode = omega arith
refusal_short R.ZeroArea = omega arith
refusal_short R.NodalValues = omega arith
refusal_short R.Output = omega arith
refusal_short R.Matrix = omega arith
refusal_short R.Coefficients = omega arith
refusal_short R.Map = omega arith
refusal_short R.Flux = omega arith
refusal_short R.TooLarge = omega arith
refusal_short R.NoSuchChoice = omega arith
refusal_short R.NoSuchNode = omega arith
refusal_short R.Mark = omega arith
refusal_short R.FileLength = omega arith
refusal_short R.Display = omega arith
refusal_short R.UnknownName = omega arith
refusal_short R.NoPlace = omega arith
refusal_short R.NotFinite = omega arith
