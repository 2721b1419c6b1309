-- How many points a rule has, by cases on the rule: at least one, and at most the Rust's TRIANGLE_MAX_QUADRATURE_POINTS.
use Prim.Native.Nat.{◌≤◌}
use native.Mathlib.Omega.{arith}
use Rattle.tri.specs.Quadrature.{quadrature_points, quadrature_count, dunavant4, dunavant5}
use Rattle.tri.specs.declared.quadrature.QuadratureKind.{QuadratureKind}
use Rattle.tri.specs.declared.quadrature.QuadratureKind.TheVariants.{Dunavant1, Dunavant2, Dunavant3, Dunavant4, Dunavant5}

pub count-between : (kind : QuadratureKind) → (1 ≤ quadrature_count kind) × (quadrature_count kind ≤ 7)
unfolding quadrature_points dunavant4 dunavant5
count-between Dunavant1 = (omega arith, omega arith)
count-between Dunavant2 = (omega arith, omega arith)
count-between Dunavant3 = (omega arith, omega arith)
count-between Dunavant4 = (omega arith, omega arith)
count-between Dunavant5 = (omega arith, omega arith)
