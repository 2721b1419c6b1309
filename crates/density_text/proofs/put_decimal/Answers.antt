-- What `io` writes, as many digits as the number has, is put in place.
use mathlib.Core.Path.{◌≡◌, ap, ◌∙◌, subst}
use mathlib.Core.List.{List}
use Prim.Native.Nat.{ℕ}
use native.Mathlib.Omega.{arith}
use lib.ListN.{length, take}
use Rattle.lists.specs.Putting.{Put}
use Rattle.density_text.specs.Text.{decimal}
use Rattle.density_text.proofs.Numerals.{decimal_is, decimal_short}
use Rattle.density_text.proofs.put_decimal.Goals as goal

pub put-requires : goal.put-requires
put-requires c =
    let spelled : take c.decimal-k.result c.decimal-k.new.out ≡ decimal c.args.n = c.decimal-k.ensures.digits ∙ decimal_is c.args.n c.decimal-k.result c.requires.0 c.decimal-k.ensures.len in
    omega (arith, ap length spelled, decimal_short c.args.n, c.requires.1)

pub returns : goal.returns
returns c =
    let spelled : take c.decimal-k.result c.decimal-k.new.out ≡ decimal c.args.n = c.decimal-k.ensures.digits ∙ decimal_is c.args.n c.decimal-k.result c.requires.0 c.decimal-k.ensures.len in
    subst (λ (t : List ℕ). Put c.args.out.now c.args.from t c.put.new.out c.put.result) spelled c.put.ensures
