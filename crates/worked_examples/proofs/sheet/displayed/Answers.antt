-- The value is a closed one and not below zero, so it fits the cast.
use mathlib.Core.Path.{◌≡◌, ◌∙◌}
use Prim.Native.Nat.{ℕ}
use native.Mathlib.Omega.{arith}
use lib.IntN.{ℤ, pos}
use lib.Ieee.{of_bits}
use Rattle.binary64.specs.Binary64.{bits}
use Rattle.refusal.specs.Checks.{first}
use Rattle.worked_examples.proofs.Outcomes.{unwrapped}
use Rattle.display.specs.Display.{Displayed, display_refusal, out_of_range, nanohenries, shown, with_sign}
use Rattle.worked_examples.proofs.sheet.displayed.Goals as goal

figure : (r : ℕ) (v : ℤ) → Displayed (bits 0x3f50_0000_0000_0000) r v → v ≡ pos 976562
unfolding display_refusal out_of_range nanohenries first shown with_sign of_bits
figure r v d = d.figure ∙ rw d.number

pub overflow_cast-result : goal.overflow_cast-result
overflow_cast-result c = rw (c.unwrap_or.ensures, unwrapped _ c.display.result, figure _ _ c.display.ensures) (tt, record { fits = omega arith })

pub returns : goal.returns
unfolding nanohenries shown with_sign of_bits
returns c = rw (c.unwrap_or.ensures, unwrapped _ c.display.result, figure _ _ c.display.ensures)
