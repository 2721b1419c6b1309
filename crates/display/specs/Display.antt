-- Document 01's display value, rounded as CR 4 says: whole nanohenries, the exact value × 10^9 to the nearest, a half to the even one. Definitions only.
use Rattle.std.specs.Prelude.{◌≡◌, ◌↔◌, Bool, true, cond, [], ◌∷◌, ℕ, ◌*◌, ◌≤◌, ltb, eqb, ℤ, pos, neg_ℤ, Float}
use Rattle.std.specs.Float.{nan, inf, fin}
use Rattle.std.specs.Float.Ieee.{up, down}
use Rattle.std.specs.Float.Ieee.Nearest.{closest}
use Rattle.refusal.specs.Numbers.{display_range}
use Rattle.refusal.specs.Checks.{check, first}

-- nanohenries in a henry
abbrev pub nano : ℕ
nano = 1_000_000_000

-- 10^15, the largest size shown
abbrev pub largest : ℕ
largest = 1_000_000_000_000_000

-- the size of num / den henries in whole nanohenries: `closest` is the nearest whole number, at a half the even one
unfoldable pub nanohenries : ℕ → ℕ → ℕ
nanohenries num den = closest (num * nano) den

-- 16: not finite, or the rounded size above the largest
unfoldable pub out_of_range : Float → Bool
out_of_range nan = true
out_of_range (inf s) = true
out_of_range (fin s m e) = ltb largest (nanohenries (m * up e) (down e))

unfoldable pub display_refusal : Float → ℕ
display_refusal x = first (check display_range (out_of_range x) ∷ [])

-- a size with its sign; zero has none
unfoldable pub with_sign : Bool → ℕ → ℤ
with_sign s n = cond s (neg_ℤ (pos n)) (pos n)

-- the display value of a finite number
unfoldable pub shown : Float → ℤ
shown nan = pos 0
shown (inf s) = pos 0
shown (fin s m e) = with_sign s (nanohenries (m * up e) (down e))

-- what the call answers
pub record Displayed (x : Float) (refusal : ℕ) (value : ℤ) : Type 0 where
  pub number : refusal ≡ display_refusal x
  pub figure : value ≡ cond (eqb refusal 0) (shown x) (pos 0)

-- not 16: finite, and the rounded size at most the largest
abbrev pub InRange : Float → Type 0
InRange nan = ⊥
InRange (inf s) = ⊥
InRange (fin s m e) = nanohenries (m * up e) (down e) ≤ largest

-- a number is the call's exactly if its condition holds
pub record DisplayNumbered (x : Float) (r : ℕ) : Type 0 where
  pub is_16 : (r ≡ display_range) ↔ (InRange x → ⊥)
  pub is_0 : (r ≡ 0) ↔ InRange x
