-- What c has beyond the exponent of the root decides; the shift to an even place loses nothing (`word`).
use Rattle.std.proofs.Common.{◌≡◌, ℕ, ◌+◌, ◌-◌, ◌*◌, ◌/◌, ◌%◌, ◌^◌, sym, ap, ◌∙◌, subst, arith}
use Rattle.square_root.proofs.Test.{from-exponent}
use Rattle.binary64.proofs.Root.Pattern.{scaled}
use Rattle.square_root.proofs.Words.{shl_once}
use Rattle.binary64.specs.Nearest.{Scaled}
use Rattle.square_root.specs.Estimate.{is_near_root}
use Rattle.binary64.specs.Format.{bias}
use Rattle.square_root.proofs.is_root.Goals as goal

-- the shift loses nothing
word : (b : ℕ) → (2 ^ 52 + b % 2 ^ 52) * 2 ^ ((b / 2 ^ 52 + bias) % 2) % 2 ^ 64 ≡ (2 ^ 52 + b % 2 ^ 52) * 2 ^ ((b / 2 ^ 52 + bias) % 2)
word b = shl_once (2 ^ 52 + b % 2 ^ 52) ((b / 2 ^ 52 + bias) % 2) (omega arith) (omega arith) (omega arith)

pub is_near_root-requires-clause-scaled : goal.is_near_root-requires-clause-scaled
is_near_root-requires-clause-scaled c =
    let b = c.args.b in
    subst Scaled (sym (word b)) (scaled (2 ^ 52 + b % 2 ^ 52) ((b / 2 ^ 52 + bias) % 2) (omega arith) (omega arith) (omega arith))

pub returns : goal.returns
returns c =
    let a = c.args in
    c.is_near_root.ensures ∙ ap (λ (x : ℕ). is_near_root (x * 2 ^ 52) (a.c - ((a.b / 2 ^ 52 + bias) / 2 - 1) * 2 ^ 52)) (word a.b) ∙ from-exponent a.b a.c (omega arith)
