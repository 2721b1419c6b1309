-- The display value at closed numbers: halves on both sides of zero and the numbers beside one, −0, the largest size and the numbers above it, what is not finite. Each is computed.
use mathlib.Core.Path.{◌≡◌, refl}
use mathlib.Core.Bool.{true}
use mathlib.Core.List.{[], ◌∷◌, map}
use Prim.Native.Nat.{ℕ}
use lib.IntN.{pos, negsuc}
use lib.Ieee.{nan, inf, of_bits}
use Rattle.refusal.specs.Checks.{first}
use Rattle.binary64.specs.Binary64.{bits}
use Rattle.display.specs.Display.{nanohenries, out_of_range, display_refusal, with_sign, shown}

-- k/1024 H is k × 976562.5 nH: for an odd k exactly between two whole nanohenries, of which the lower is even where k % 4 is 1.
-- Here k is 1, −1, 3, −3, 5, 7
pub halves :
    map (λ (b : ℕ). shown (bits b))
    (0x3f50_0000_0000_0000 ∷ 0xbf50_0000_0000_0000 ∷ 0x3f68_0000_0000_0000 ∷ 0xbf68_0000_0000_0000 ∷ 0x3f74_0000_0000_0000 ∷ 0x3f7c_0000_0000_0000 ∷ [])
    ≡ pos 976562 ∷ negsuc 976561 ∷ pos 2929688 ∷ negsuc 2929687 ∷ pos 4882812 ∷ pos 6835938 ∷ []
unfolding of_bits shown with_sign nanohenries
halves = refl

-- the numbers before and after 1/1024 H: no half, so the nearest
pub beside_a_half : map (λ (b : ℕ). shown (bits b)) (0x3f4f_ffff_ffff_ffff ∷ 0x3f50_0000_0000_0001 ∷ []) ≡ pos 976562 ∷ pos 976563 ∷ []
unfolding of_bits shown with_sign nanohenries
beside_a_half = refl

pub minus_zero : shown (bits 0x8000_0000_0000_0000) ≡ pos 0
unfolding of_bits shown with_sign nanohenries
minus_zero = refl

-- 10^6 H
pub largest-shown : shown (bits 0x412e_8480_0000_0000) ≡ pos 1_000_000_000_000_000
unfolding of_bits shown with_sign nanohenries
largest-shown = refl

pub largest-accepted : display_refusal (bits 0x412e_8480_0000_0000) ≡ 0
unfolding of_bits display_refusal out_of_range nanohenries first
largest-accepted = refl

-- the next numbers above 10^6 H are 0.116… nH apart: four of them still round to 10^15, the fifth does not
pub last-accepted : display_refusal (bits 0x412e_8480_0000_0004) ≡ 0
unfolding of_bits display_refusal out_of_range nanohenries first
last-accepted = refl

pub first-refused : display_refusal (bits 0x412e_8480_0000_0005) ≡ 16
unfolding of_bits display_refusal out_of_range nanohenries first
first-refused = refl

pub no_number : display_refusal nan ≡ 16
unfolding display_refusal out_of_range first
no_number = refl

pub infinite : display_refusal (inf true) ≡ 16
unfolding display_refusal out_of_range first
infinite = refl
