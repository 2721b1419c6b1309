-- The parts of the line are put one behind the other.
use mathlib.Core.Path.{subst}
use mathlib.Core.List.{[], ◌∷◌}
use Prim.Native.Nat.{ℕ}
use native.Mathlib.Omega.{arith}
use Rattle.refusal.specs.Outcome.{number}
use Rattle.lists.specs.Putting.{Put}
use Rattle.lists.proofs.Putting.{both}
use Rattle.density_text.specs.Text.{decimal, refused_line}
use Rattle.density_text.proofs.Numerals.{decimal_short}
use Rattle.density_text.proofs.put_refused.Goals as goal

pub returns : goal.returns
unfolding refused_line
returns c =
    let r = number c.args.refusal in
    let a = c.put-a in
    let b = c.put_decimal-b in
    let d = c.put in
    let digits = subst (λ (n : ℕ). Put a.new.out a.result (decimal n) b.new.out b.result) c.number.ensures b.ensures in
    both c.args.out.now 0 (114 ∷ 101 ∷ 102 ∷ 117 ∷ 115 ∷ 101 ∷ 100 ∷ 32 ∷ []) _ _ _ _ _ (omega (arith, c.requires)) a.ensures
    (both a.new.out a.result (decimal r) _ _ _ _ _ (omega (arith, c.requires, decimal_short r)) digits
    d.ensures)
