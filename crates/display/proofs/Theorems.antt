-- The call's number by its condition: the test is false exactly in range, by cases on the number, and the laws of any list of checks do the rest. Its value in
-- words: `closest` is the one nearest whole number (`closest_whole`), and the sign is put after the rounding.
use mathlib.Core.Path.{◌≡◌, refl, sym}
use mathlib.Core.Logic.{◌↔◌}
use mathlib.Core.Bool.{Bool, true, false, not, true≢false}
use mathlib.Core.List.{[], ◌∷◌}
use Prim.Native.Nat.{ℕ, ◌*◌}
use borrow.Author.Tests.{ltb-false, le-ltb}
use lib.IntN.{ℤ, pos, neg_ℤ, neg_ℤ-neg_ℤ}
use lib.Ieee.{Float, nan, inf, fin, up, down, neg}
use lib.Ieee.Fits.{down_pos}
use Rattle.binary64.specs.Nearest.{NearestWhole}
use Rattle.binary64.proofs.Whole.{closest_whole}
use Rattle.refusal.specs.Numbers.{display_range}
use Rattle.refusal.specs.Checks.{check}
use Rattle.refusal.proofs.Checks.{none-applies, applies-first}
use Rattle.refusal.proofs.Tests.{on}
use Rattle.display.specs.Display.{nano, largest, nanohenries, out_of_range, display_refusal, with_sign, shown, InRange, DisplayNumbered}

range_off : (x : Float) → (out_of_range x ≡ false) ↔ InRange x
unfolding out_of_range
range_off nan = (λ e. true≢false e, λ h. absurd h)
range_off (inf s) = (λ e. true≢false e, λ h. absurd h)
range_off (fin s m e) = (ltb-false largest (nanohenries (m * up e) (down e)), le-ltb largest (nanohenries (m * up e) (down e)))

pub display_numbered : (x : Float) → DisplayNumbered x (display_refusal x)
unfolding display_refusal
display_numbered x =
    let w16 = applies-first [] display_range (out_of_range x) [] tt tt tt in
    let w0 = none-applies (check display_range (out_of_range x) ∷ []) tt in
    let off = range_off x in
    let past = on (out_of_range x) (InRange x) off in
    record { is_16 = (λ e. past.0 (w16.0 e).1, λ h. w16.1 (tt, past.1 h)); is_0 = (λ e. off.0 (w0.0 e).0, λ h. w0.1 (off.1 h, tt)) }

-- the size shown is the whole number of nanohenries nearest to m × 2^e H, the even one at a half, and no other
pub display_nearest : (m : ℕ) (e : ℤ) (n : ℕ) → (n ≡ nanohenries (m * up e) (down e)) ↔ NearestWhole (m * up e * nano) (down e) n
unfolding nanohenries
display_nearest m e n = closest_whole (m * up e * nano) (down e) n (down_pos e)

-- the negatives mirror: the same number, and the value with its sign changed
pub display-mirrored : (x : Float) → (display_refusal (neg x) ≡ display_refusal x) × (shown (neg x) ≡ neg_ℤ (shown x))
unfolding display_refusal out_of_range shown with_sign neg
display-mirrored nan = (refl, refl)
display-mirrored (inf s) = (refl, refl)
display-mirrored (fin s m e) = (refl, turned s (nanohenries (m * up e) (down e)))
  where
    turned : (s : Bool) (n : ℕ) → with_sign (not s) n ≡ neg_ℤ (with_sign s n)
    turned true n = sym (neg_ℤ-neg_ℤ (pos n))
    turned false n = refl
