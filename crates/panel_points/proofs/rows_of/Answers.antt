-- After k turns each of the four lists has its number of the first k rows; a turn writes the next row's into all four.
use mathlib.Core.Path.{◌≡◌, refl}
use native.Mathlib.Omega.{arith}
use borrow.Author.Rules.{rules}
use Rattle.tri.proofs.Counts.{count-between}
use Rattle.panel_points.specs.Points as Spec
use Rattle.panel_points.proofs.Seven.{seven_more}
use Rattle.panel_points.proofs.rows_of.Goals as goal

pub loop-k-init : goal.loop-k-init
unfolding Spec.seven
loop-k-init c = (rw c.quadrature_count-count.ensures (count-between c.args.kind).1, refl, refl, refl, refl)

pub quadrature_row-q-requires : goal.quadrature_row-q-requires
quadrature_row-q-requires c = rw (← c.quadrature_count-count.ensures) c.loop-k-test.true

pub loop-k-preserved : goal.loop-k-preserved
loop-k-preserved c =
    let l = c.loop-k in
    let q = c.quadrature_row-q.ensures in (
      search rules,
      rw (seven_more, ← l.invariant.1, q),
      rw (seven_more, ← l.invariant.2, q),
      rw (seven_more, ← l.invariant.3, q),
      rw (seven_more, ← l.invariant.4, q),
    )

pub returns : goal.returns
unfolding Spec.rows_of
returns c =
    let l = c.loop-k in
    let n = c.quadrature_count-count in
    let e : l.k ≡ n.result = omega arith in
    rw (l.invariant.1, l.invariant.2, l.invariant.3, l.invariant.4, e, n.ensures)
