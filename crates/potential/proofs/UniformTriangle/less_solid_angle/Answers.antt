-- Where the tests pass, the solid angle is finite and its part a zero (`left_out`). Else the part is worked out, by the contracts.
use mathlib.Core.Path.{sym, subst}
use lib.Dec.{T}
use lib.Ieee.{binary64, fits}
use Rattle.potential.specs.Potential as Spec
use Rattle.potential.proofs.Finite.{left_out}
use Rattle.potential.proofs.UniformTriangle.less_solid_angle.Goals as goal

pub returns-then-d-value : goal.returns-then-d-value
unfolding Spec.less_solid_angle Spec.signed_solid_angle
returns-then-d-value c =
    let held-value : T (fits binary64 c.args.value) = subst T (sym c.well_formed.1.1.1.0.1) tt in
    rw (
      ← c.sub3-r0.ensures,
      ← c.sub3-r1.ensures,
      ← c.sub3-r2.ensures,
    )
    (left_out c.sub3-r0.result c.sub3-r1.result c.sub3-r2.result c.args.d c.args.value held-value
    (rw (c.moderate3.ensures, c.moderate3-2.ensures, c.moderate3-3.ensures) at c.if-d-value.true))

pub returns : goal.returns
unfolding Spec.less_solid_angle Spec.signed_solid_angle
returns c =
    rw (
      c.solid_angle.ensures,
      c.sub3-r2.ensures,
      c.sub3-r1.ensures,
      c.sub3-r0.ensures,
    )
