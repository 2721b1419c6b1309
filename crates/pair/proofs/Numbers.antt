-- What the numbers of a panel are, read one by one.
use mathlib.Core.Path.{refl}
use Rattle.tri.specs.Mapping.{Tri}
use Rattle.tri.specs.declared.quadrature.QuadratureKind.{QuadratureKind}
use Rattle.pair.specs.Pair.{panel_numbers, source_numbers, Known, KnownSource}

-- what panel_numbers and source_numbers give is known
pub panel_known : (t : Tri) → Known (panel_numbers t)
unfolding Known panel_numbers
panel_known t = refl

pub source_known : (kind : QuadratureKind) (t : Tri) → KnownSource kind (source_numbers kind (panel_numbers t))
unfolding KnownSource source_numbers
source_known kind t = (panel_known t, refl)
