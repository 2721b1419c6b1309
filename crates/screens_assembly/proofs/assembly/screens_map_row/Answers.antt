-- On a refusal both numbers are 0 by the definition; else the row ends within the map, so its place fits.
use native.Mathlib.Omega.{arith}
use borrow.Author.Tests.{ne_eqb}
use Rattle.refusal.proofs.Outcome.{never_0}
use Rattle.linkage.proofs.Sizes.{map-row-sized}
use Rattle.screens_assembly.proofs.assembly.screens_map_row.Goals as goal

pub overflow_mul-offset : goal.overflow_mul-offset
overflow_mul-offset c = omega (arith, map-row-sized _ _ _ c.in-Ok.ensures.number)

pub returns-in-Err : goal.returns-in-Err
returns-in-Err c =
    let n = ne_eqb _ 0 (never_0 c.in-Err.refusal) in rw c.number.ensures (record { refusal = c.in-Err.ensures.number; begins = rw n; long = rw n })
