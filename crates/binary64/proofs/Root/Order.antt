-- `square_root` rounds the exact root, for either format and in terms of `round` alone: no fraction a / c at or below the root rounds to more than `square_root` (`below`), and none at or above it
-- rounds to less (`above`).
use mathlib.Core.Path.{◌≡◌, refl, sym, ap, ◌∙◌, subst}
use Prim.Native.Nat.{ℕ, suc, ◌+◌, ◌*◌, ◌/◌, ◌^◌, ◌≤◌, ◌<◌}
use native.Mathlib.Nat.{le_trans, le_of_eq, lt_of_lt_of_le, lt_of_le_of_lt, lt_of_not-le, mul-suc, suc-mul, one-mul, add-zero, mul_assoc, mul_comm, mul_left_comm, add-mul, mul-le-mul_right, mul-lt-mul_of_pos_right, le_of_mul-le-mul_right, lt_of_mul-lt-mul_right, mul-pos, pow-suc, le-div_iff_mul-le, div-lt_iff_lt-mul}
use native.Mathlib.Omega.{arith}
use native.Mathlib.Decide.{dec_le}
use mathlib.Core.Bool.{Bool, true, false, not, cond}
use lib.Dec.{T, eqb, eqb→eq, ltb→lt, eqb_refl}
use lib.Arith.{lt_of_le-ne}
use lib.Pow.{pow-add, pow_pos}
use lib.Ieee.{Float, nan, inf, fin, Format, low, up, down, round, le}
use lib.Ieee.Fits.{down_pos}
use lib.Ieee.Order.{round_mono}
use lib.Ieee.Positive.{num, den, positive}
use Rattle.binary64.specs.Operations.{square_root, root, root_of}
use Rattle.binary64.proofs.Root.Squares.{even-square}
use Rattle.binary64.proofs.Root.Floor.{Floor, root_floor, four_pow}
use Rattle.binary64.proofs.Root.Rounded.{square-lt}
use Rattle.binary64.proofs.Root.Value.{sqrt_is}
use Rattle.binary64.proofs.Root.Between.{between}

square_le : (x y : ℕ) → x * x ≤ y * y → x ≤ y
square_le x y h = under (square-lt x (suc y) (lt_of_le_of_lt h (more y)))
  where
    more : (y : ℕ) → y * y < suc y * suc y
    more y = let e : suc y * suc y ≡ suc y * y + suc y = mul-suc (suc y) y in let g : suc y * y ≡ y * y + y = suc-mul y y in omega arith

    under : x < suc y → x ≤ y
    under g = omega arith

-- n / D is the square of the root in halves, q its whole part, and h / c a fraction in halves
module _ (f : Format) (n D q a c : ℕ) (DP : 0 < D) (C : 0 < c) where
  -- the fraction and the middle of the two halves
  abbrev L : ℕ
  L = 2 ^ low f

  den_is : 2 ^ (low f + 2) ≡ 4 * L
  den_is = pow-add 2 (low f) 2 ∙ mul_comm L 4

  quarter : a * 2 ^ (low f + 2) ≡ 4 * (a * L)
  quarter = ap (λ (x : ℕ). a * x) den_is ∙ mul_left_comm a 4 L

  den_pos : 0 < 2 ^ (low f + 2)
  den_pos = pow_pos (low f + 2)

  middle_is : (2 * q + 1) * c ≡ 2 * (q * c) + c
  middle_is = add-mul (2 * q) 1 c ∙ (λ i. mul_assoc 2 q c i + one-mul c i)

  exact_below : 2 * (a * L) ≤ q * c → T (le (round f false a c) (round f false (2 * q + 0) (2 ^ (low f + 2))))
  exact_below h =
      let e : (2 * q + 0) * c ≡ 2 * (q * c) = ap (λ (x : ℕ). x * c) (add-zero (2 * q)) ∙ mul_assoc 2 q c in
      let k = quarter in
      round_mono f a c (2 * q + 0) (2 ^ (low f + 2)) C den_pos (omega arith)

  exact_above : q * c ≤ 2 * (a * L) → T (le (round f false (2 * q + 0) (2 ^ (low f + 2))) (round f false a c))
  exact_above h =
      let e : (2 * q + 0) * c ≡ 2 * (q * c) = ap (λ (x : ℕ). x * c) (add-zero (2 * q)) ∙ mul_assoc 2 q c in
      let k = quarter in
      round_mono f (2 * q + 0) (2 ^ (low f + 2)) a c den_pos C (omega arith)

  rest_below : 2 * (a * L) < q * c + c → T (le (round f false a c) (round f false (2 * q + 1) (2 ^ (low f + 2))))
  rest_below h = either (dec_le (4 * (a * L)) (2 * (q * c) + c))
    where
      same : round f false a c ≡ round f false (2 * q + 1) (2 ^ (low f + 2)) → T (le (round f false a c) (round f false (2 * q + 1) (2 ^ (low f + 2))))
      same e = subst (λ (x : Float). T (le (round f false a c) x)) e (round_mono f a c a c C C (le_of_eq refl))

      either : Dec (4 * (a * L) ≤ 2 * (q * c) + c) → T (le (round f false a c) (round f false (2 * q + 1) (2 ^ (low f + 2))))
      either (yes g) = let k = quarter in let m = middle_is in round_mono f a c (2 * q + 1) (2 ^ (low f + 2)) C den_pos (omega arith)
      either (no g) = let g' : 2 * (q * c) + c < 4 * (a * L) = lt_of_not-le g in same (between f q a c C (omega arith) (omega arith))

  rest-above : q * c < 2 * (a * L) → T (le (round f false (2 * q + 1) (2 ^ (low f + 2))) (round f false a c))
  rest-above h = either (dec_le (2 * (q * c) + c) (4 * (a * L)))
    where
      same : round f false a c ≡ round f false (2 * q + 1) (2 ^ (low f + 2)) → T (le (round f false (2 * q + 1) (2 ^ (low f + 2))) (round f false a c))
      same e = subst (λ (x : Float). T (le x (round f false a c))) e (round_mono f a c a c C C (le_of_eq refl))

      either : Dec (2 * (q * c) + c ≤ 4 * (a * L)) → T (le (round f false (2 * q + 1) (2 ^ (low f + 2))) (round f false a c))
      either (yes g) = let k = quarter in let m = middle_is in round_mono f (2 * q + 1) (2 ^ (low f + 2)) a c den_pos C (omega arith)
      either (no g) = let g' : 4 * (a * L) < 2 * (q * c) + c = lt_of_not-le g in same (between f q a c C (omega arith) (omega arith))

  -- squares: 2 * a * L / c is the fraction in halves
  abbrev h : ℕ
  h = 2 * (a * L)

  squares : (x : ℕ) → x * x * D * (c * c) ≡ x * c * (x * c) * D
  squares x = simp (mul_assoc, mul_comm, mul_left_comm) refl

  low_side : (s : Bool) → (T s → q * q * D ≡ n) → n < (q + 1) * (q + 1) * D → h * h * D ≤ n * (c * c) → T (le (round f false a c) (round f false (2 * q + cond s 0 1) (2 ^ (low f + 2))))
  low_side true e top k = exact_below (square_le h (q * c) (le_of_mul-le-mul_right (le_trans k (le_of_eq (ap (λ (x : ℕ). x * (c * c)) (sym (e tt)) ∙ squares q))) DP))
  low_side false e top k =
      rest_below (lt_of_lt_of_le
      (square-lt h ((q + 1) * c) (lt_of_mul-lt-mul_right D (lt_of_le_of_lt k (lt_of_lt_of_le (mul-lt-mul_of_pos_right top (mul-pos C C)) (le_of_eq (squares (q + 1)))))))
      (le_of_eq (add-mul q 1 c ∙ ap (λ (x : ℕ). q * c + x) (one-mul c))))

  high_side : (s : Bool) → (T s → q * q * D ≡ n) → (T (not s) → q * q * D < n) → n * (c * c) ≤ h * h * D → T (le (round f false (2 * q + cond s 0 1) (2 ^ (low f + 2))) (round f false a c))
  high_side true e l k = exact_above (square_le (q * c) h (le_of_mul-le-mul_right (le_trans (le_of_eq (sym (squares q) ∙ ap (λ (x : ℕ). x * (c * c)) (e tt))) k) DP))
  high_side false e l k =
      rest-above (square-lt (q * c) h (lt_of_mul-lt-mul_right D (lt_of_le_of_lt (le_of_eq (sym (squares q))) (lt_of_lt_of_le (mul-lt-mul_of_pos_right (l tt) (mul-pos C C)) k))))

-- ---- `root_of`
in_halves : (N a L c : ℕ) → N * (L * L * 4) * (c * c) ≡ N * (c * c) * (4 * (L * L))
in_halves N a L c = simp (mul_assoc, mul_comm, mul_left_comm) refl

fraction_in_halves : (a L D : ℕ) → 2 * (a * L) * (2 * (a * L)) * D ≡ a * a * D * (4 * (L * L))
fraction_in_halves a L D = ap (λ (x : ℕ). x * D) (even-square (a * L)) ∙ simp (mul_assoc, mul_comm, mul_left_comm) refl

power : (f : Format) → 4 ^ suc (low f) ≡ 2 ^ low f * 2 ^ low f * 4
power f = pow-suc 4 (low f) ∙ ap (λ (x : ℕ). x * 4) (four_pow (low f))

floor_low : (n D q : ℕ) → 0 < D → Floor (n / D) q → q * q * D ≤ n
floor_low n D q P f = (le-div_iff_mul-le P).0 f.0

floor_high : (n D q : ℕ) → 0 < D → Floor (n / D) q → n < (q + 1) * (q + 1) * D
floor_high n D q P f = (div-lt_iff_lt-mul P).0 f.1

root_of-below : (f : Format) (N D a c : ℕ) → 0 < D → 0 < c → a * a * D ≤ N * (c * c) → T (le (round f false a c) (root_of f N D))
unfolding root_of
root_of-below f N D a c DP C h =
    let L = 2 ^ low f in
    let n = N * 4 ^ suc (low f) in
    let q = root (n / D) in
    let fl = root_floor (n / D) in
    let k : 2 * (a * L) * (2 * (a * L)) * D ≤ n * (c * c) =
    le_trans (le_of_eq (fraction_in_halves a L D)) (le_trans (mul-le-mul_right (4 * (L * L)) h) (le_of_eq (sym (ap (λ (x : ℕ). N * x * (c * c)) (power f) ∙ in_halves N a L c)))) in
    low_side f n D q a c DP C (eqb (q * q * D) n) (eqb→eq (q * q * D) n) (floor_high n D q DP fl) k

not_eq : (a b : ℕ) → a ≤ b → T (not (eqb a b)) → a < b
not_eq a b h n = lt_of_le-ne h (λ (e : a ≡ b). clash (eqb a b) (subst (λ (x : ℕ). T (eqb a x)) e (eqb_refl a)) n)
  where
    clash : (x : Bool) → T x → T (not x) → ⊥
    clash true t u = u
    clash false t u = t

root_of-above : (f : Format) (N D a c : ℕ) → 0 < D → 0 < c → N * (c * c) ≤ a * a * D → T (le (root_of f N D) (round f false a c))
unfolding root_of
root_of-above f N D a c DP C h =
    let L = 2 ^ low f in
    let n = N * 4 ^ suc (low f) in
    let q = root (n / D) in
    let fl = root_floor (n / D) in
    let k : n * (c * c) ≤ 2 * (a * L) * (2 * (a * L)) * D =
    le_trans (le_of_eq (ap (λ (x : ℕ). N * x * (c * c)) (power f) ∙ in_halves N a L c)) (le_trans (mul-le-mul_right (4 * (L * L)) h) (le_of_eq (sym (fraction_in_halves a L D)))) in
    high_side f n D q a c DP C (eqb (q * q * D) n) (eqb→eq (q * q * D) n) (not_eq (q * q * D) n (floor_low n D q DP fl)) k

-- ---- `square_root`, of a value x that is finite and above zero: num x / den x
pub below : (f : Format) (x : Float) (a c : ℕ) → T (positive x) → 0 < c → a * a * den x ≤ num x * (c * c) → T (le (round f false a c) (square_root f x))
below f nan a c p C h = absurd p
below f (inf s) a c p C h = absurd p
below f (fin true m e) a c p C h = absurd p
below f (fin false m e) a c p C h = subst (λ (y : Float). T (le (round f false a c) y)) (sym (sqrt_is f m e (ltb→lt 0 m p))) (root_of-below f (m * up e) (down e) a c (down_pos e) C h)

pub above : (f : Format) (x : Float) (a c : ℕ) → T (positive x) → 0 < c → num x * (c * c) ≤ a * a * den x → T (le (square_root f x) (round f false a c))
above f nan a c p C h = absurd p
above f (inf s) a c p C h = absurd p
above f (fin true m e) a c p C h = absurd p
above f (fin false m e) a c p C h = subst (λ (y : Float). T (le y (round f false a c))) (sym (sqrt_is f m e (ltb→lt 0 m p))) (root_of-above f (m * up e) (down e) a c (down_pos e) C h)
