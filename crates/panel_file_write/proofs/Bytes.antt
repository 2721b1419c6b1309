-- The library's bytes of a word, the lowest first: the first w of them are those of `to_little_endian`, by induction on w. Assumes nothing.
use mathlib.Core.Path.{◌≡◌, refl, sym, ap, ◌∙◌}
use mathlib.Core.List.{◌∷◌}
use Prim.Native.Nat.{ℕ, zero, suc, ◌/◌, ◌%◌, ◌^◌, ◌≤◌}
use native.Mathlib.Nat.{pow-suc, div-one, div-div-eq-div-mul}
use native.Mathlib.Omega.{arith}
use lib.ListN.{take}
use Rattle.std.specs.Int.{byte_at, bytes_low_first, to_le_bytes, w64}
use Rattle.panel_file.specs.LittleEndian.{to_little_endian}

first : (i n : ℕ) → byte_at i n ≡ n / 256 ^ i % 256
first zero n = ap (λ (x : ℕ). x % 256) (sym (div-one n))
first (suc i) n = refl

higher : (i n : ℕ) → n / 256 ^ suc i ≡ n / 256 ^ i / 256
higher i n = ap (λ (x : ℕ). n / x) (pow-suc 256 i) ∙ sym (div-div-eq-div-mul n (256 ^ i) 256)

from_place : (w k i n : ℕ) → w ≤ k → take w (bytes_low_first i k n) ≡ to_little_endian w (n / 256 ^ i)
unfolding to_little_endian
from_place zero k i n h = refl
from_place (suc w) zero i n h = absurd (omega arith)
from_place (suc w) (suc k) i n h =
    let rest = from_place w k (suc i) n (omega arith) ∙ ap (to_little_endian w) (higher i n) in
    (λ j. first i n j ∷ rest j)

pub lowest_bytes : (w n : ℕ) → w ≤ 8 → take w (to_le_bytes w64 n) ≡ to_little_endian w n
lowest_bytes w n h = from_place w 8 0 n h ∙ ap (to_little_endian w) (div-one n)
