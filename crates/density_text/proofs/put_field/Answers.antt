-- A space and the sixteen digits that `io` writes, put one behind the other.
use mathlib.Core.Path.{◌≡◌, ap, ◌∙◌, subst}
use mathlib.Core.List.{List, [], ◌∷◌}
use Prim.Native.Nat.{ℕ}
use native.Mathlib.Omega.{arith}
use lib.ListN.{length, take}
use Rattle.io.specs.Digits.{last_digits}
use Rattle.ieee754.specs.Ieee754.{canonical_bits}
use Rattle.lists.specs.Putting.{Put}
use Rattle.density_text.specs.Text.{field}
use Rattle.lists.proofs.Putting.{both}
use Rattle.density_text.proofs.Numerals.{sixteen, digits-length}
use Rattle.density_text.proofs.put_field.Goals as goal

pub put-requires : goal.put-requires
put-requires c =
    let spelled : take c.hex-k.result c.hex-k.new.out ≡ last_digits 16 16 (canonical_bits c.args.x) = let n = c.canonical_bits in c.hex-k.ensures.digits ∙ ap (λ (k : ℕ). last_digits 16 k n.result) (sixteen n.result c.hex-k.result n.type_inv c.hex-k.ensures.len) ∙ ap (λ (b : ℕ). last_digits 16 16 b) n.ensures in
    omega (arith, ap length spelled, digits-length 16 16 (canonical_bits c.args.x), c.put-to.ensures.behind, c.put-to.auto.out, c.requires)

pub returns : goal.returns
unfolding field
returns c =
    let spelled : take c.hex-k.result c.hex-k.new.out ≡ last_digits 16 16 (canonical_bits c.args.x) = let n = c.canonical_bits in c.hex-k.ensures.digits ∙ ap (λ (k : ℕ). last_digits 16 k n.result) (sixteen n.result c.hex-k.result n.type_inv c.hex-k.ensures.len) ∙ ap (λ (b : ℕ). last_digits 16 16 b) n.ensures in
    let second = subst (λ (t : List ℕ). Put c.put-to.new.out c.put-to.result t c.put.new.out c.put.result) spelled c.put.ensures in
    both c.args.out.now c.args.from (32 ∷ []) _ _ _ _ _ (omega (arith, c.requires)) c.put-to.ensures second
