-- After k turns the sum is the definition's over the first k rows; a turn adds the next row, by the contract of its part.
use mathlib.Core.Path.{◌≡◌, refl}
use native.Mathlib.Omega.{arith}
use Rattle.coupling.specs.Coupling as Spec
use Rattle.lists.specs.Sums.{running_sum}
use Rattle.lists.proofs.Sums.{sum_more}
use Rattle.coupling.proofs.coupling.triangle_scalar_potential_regular.Goals as goal

pub loop-k-init : goal.loop-k-init
unfolding running_sum
loop-k-init c = refl

pub quadrature_row-requires : goal.quadrature_row-requires
quadrature_row-requires c = rw (← c.quadrature_count-k-end.ensures) c.loop-k-test.true

pub loop-k-preserved : goal.loop-k-preserved
loop-k-preserved c = rw (sum_more, ← c.loop-k.invariant, c.potential_row-out.ensures, c.quadrature_row.ensures)

pub returns : goal.returns
unfolding Spec.triangle_scalar_potential_regular
returns c =
    let l = c.loop-k in
    let n = c.quadrature_count-k-end in
    let e : l.k ≡ n.result = omega arith in
    rw (l.invariant, e, n.ensures, c.area-source_area.ensures)
