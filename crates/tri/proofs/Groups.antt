-- A rule's rows are those at its places: each table is compared whole, by computation, and a row is taken out of it at its index.
use mathlib.Core.Path.{◌≡◌, refl, ap, ◌∙◌}
use mathlib.Core.List.{List, []}
use Prim.Native.Nat.{ℕ, ◌+◌, ◌/◌, ◌<◌}
use native.Mathlib.Omega.{arith}
use lib.ListN.{get_or}
use lib.Ieee.{Float}
use Rattle.lists.specs.Filling.{tabulate_from, tabulate}
use Rattle.lists.proofs.Filling.{tabulate_get}
use Rattle.tri.specs.Quadrature.{quadrature_points, quadrature_count, quadrature_row, dunavant4, dunavant5}
use Rattle.tri.specs.Groups.{groups, group_count, turned, placed, first_place}
use Rattle.tri.specs.declared.quadrature.QuadratureKind.{QuadratureKind}
use Rattle.tri.specs.declared.quadrature.QuadratureKind.TheVariants.{Dunavant1, Dunavant2, Dunavant3, Dunavant4, Dunavant5}

pub in_groups : (kind : QuadratureKind) (k : ℕ) → k < quadrature_count kind → (first_place kind + k) / 3 < group_count
unfolding quadrature_points dunavant4 dunavant5 groups first_place
in_groups Dunavant1 k l = omega (arith, l)
in_groups Dunavant2 k l = omega (arith, l)
in_groups Dunavant3 k l = omega (arith, l)
in_groups Dunavant4 k l = omega (arith, l)
in_groups Dunavant5 k l = omega (arith, l)

all_placed : (kind : QuadratureKind) → quadrature_points kind ≡ tabulate (quadrature_count kind) (λ (k : ℕ). placed (first_place kind + k))
unfolding quadrature_points dunavant4 dunavant5 groups turned first_place tabulate_from
all_placed Dunavant1 = refl
all_placed Dunavant2 = refl
all_placed Dunavant3 = refl
all_placed Dunavant4 = refl
all_placed Dunavant5 = refl

pub row_placed : (kind : QuadratureKind) (k : ℕ) → k < quadrature_count kind → quadrature_row kind k ≡ placed (first_place kind + k)
row_placed kind k l =
    ap (λ (table : List (List Float)). get_or table k []) (all_placed kind)
    ∙ tabulate_get [] (quadrature_count kind) (λ (i : ℕ). placed (first_place kind + i)) k l
