-- A loop reads a number from its highest byte down, one byte a turn (`turn`); j bytes are below 256 ^ j; two counts have a product that fits a word. Assumes nothing.
use mathlib.Core.Path.{◌≡◌, sym, ap, ◌∙◌, subst}
use mathlib.Core.List.{List}
use Prim.Native.Nat.{ℕ, zero, suc, ◌+◌, ◌-◌, ◌*◌, ◌^◌, ◌≤◌, ◌<◌}
use native.Mathlib.Nat.{mul-le-mul, pow-suc, pow-le-pow_right, lt_of_lt_of_le}
use native.Mathlib.Omega.{arith}
use lib.ListN.{get_or}
use Rattle.panel_file.specs.LittleEndian.{little_endian}
use Rattle.panel_file.specs.PanelFile.{Bytes}

-- one byte more
wider : (n w y : ℕ) → n < 256 ^ w → y < 256 → n * 256 + y < 256 ^ suc w
wider n w y h l = let e : 256 ^ suc w ≡ 256 ^ w * 256 = pow-suc 256 w in omega arith

pub bound : (w : ℕ) (b : List ℕ) (i : ℕ) → Bytes b → little_endian w b i < 256 ^ w
unfolding little_endian
bound zero b i h = omega arith
bound (suc w) b i h = let e : 256 ^ suc w ≡ 256 ^ w * 256 = pow-suc 256 w in omega (arith, h i, bound w b (suc i) h)

-- a number of at most seven bytes leaves room for one more
pub room : (n j : ℕ) → n < 256 ^ j → j ≤ 7 → n < 2 ^ 56
room n j l h = let p : 0 < 256 = omega arith in lt_of_lt_of_le l (pow-le-pow_right p h)

one_more : (w : ℕ) (b : List ℕ) (i n : ℕ) → n ≡ little_endian w b (suc i) → n * 256 + get_or b i 0 ≡ little_endian (suc w) b i
unfolding little_endian
one_more w b i n e = rw (← e) (omega arith)

pub turn : (w k from n : ℕ) (b : List ℕ) → 0 < k → k ≤ w → n ≡ little_endian (w - k) b (from + k) → n * 256 + get_or b (from + (k - 1)) 0 ≡ little_endian (w - (k - 1)) b (from + (k - 1))
turn w k from n b p l e =
    let a : from + k ≡ suc (from + (k - 1)) = omega arith in
    let c : w - (k - 1) ≡ suc (w - k) = omega arith in
    one_more (w - k) b (from + (k - 1)) n (e ∙ ap (little_endian (w - k) b) a) ∙ ap (λ (v : ℕ). little_endian v b (from + (k - 1))) (sym c)

pub turn_bound : (w k n y : ℕ) → 0 < k → k ≤ w → n < 256 ^ (w - k) → y < 256 → n * 256 + y < 256 ^ (w - (k - 1))
turn_bound w k n y p l h b =
    let c : w - (k - 1) ≡ suc (w - k) = omega arith in
    subst (λ (v : ℕ). n * 256 + y < 256 ^ v) (sym c) (wider n (w - k) y h b)

-- no byte read yet
pub none_read : (w from : ℕ) (b : List ℕ) → 0 ≡ little_endian (w - w) b (from + w)
unfolding little_endian
none_read w from b = let z : w - w ≡ 0 = omega arith in rw z

pub none_bound : (w : ℕ) → 0 < 256 ^ (w - w)
none_bound w = let z : w - w ≡ 0 = omega arith in rw z (omega arith)

pub all_bound : (w k n : ℕ) → k ≡ 0 → n < 256 ^ (w - k) → n < 256 ^ w
all_bound w k n z h = let c : w - k ≡ w = omega arith in subst (λ (v : ℕ). n < 256 ^ v) c h

pub all_read : (w k from n : ℕ) (b : List ℕ) → k ≡ 0 → n ≡ little_endian (w - k) b (from + k) → n ≡ little_endian w b from
all_read w k from n b z e =
    let c : w - k ≡ w = omega arith in
    let a : from + k ≡ from = omega arith in
    e ∙ (λ i. little_endian (c i) b (a i))

-- ---- values behind a file's panels
pub few_values : (a n : ℕ) → a < 2 ^ 16 → n < 2 ^ 16 → a * n ≤ 2 ^ 32
few_values a n h l = let h' : a ≤ 2 ^ 16 = omega arith in let l' : n ≤ 2 ^ 16 = omega arith in mul-le-mul h' l'
