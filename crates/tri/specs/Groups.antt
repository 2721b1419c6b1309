-- Inner form: the rows of the five tables made from groups of three, which have one weight and two numbers in turned places.
-- Definitions only.
use Rattle.std.specs.Prelude.{ℕ, ◌/◌, ◌%◌, cond, List, [], ◌∷◌, eqb, get_or, length, Float}
use Rattle.binary64.specs.Binary64.{at}
use Rattle.tri.specs.Quadrature.{quadrature_row}
use Rattle.tri.specs.declared.quadrature.QuadratureKind.{QuadratureKind}
use Rattle.tri.specs.declared.quadrature.QuadratureKind.TheVariants.{Dunavant1, Dunavant2, Dunavant3, Dunavant4, Dunavant5}

-- the last row of each group, which has its weight and both its numbers; a row that stands alone is the last of a group whose numbers
-- are one
unfoldable pub groups : List (List Float)
groups =
    quadrature_row Dunavant1 0
    ∷ quadrature_row Dunavant2 2
    ∷ quadrature_row Dunavant3 0 ∷ quadrature_row Dunavant3 3
    ∷ quadrature_row Dunavant4 2 ∷ quadrature_row Dunavant4 5
    ∷ quadrature_row Dunavant5 0 ∷ quadrature_row Dunavant5 3 ∷ quadrature_row Dunavant5 6 ∷ []

abbrev pub group_count : ℕ
group_count = length groups

abbrev pub group : ℕ → List Float
group index = get_or groups index []

-- row t of a group: the weight, and the two numbers in turned places
unfoldable pub turned : List Float → ℕ → List Float
turned g t =
    cond (eqb t 0) (at g 0 ∷ at g 1 ∷ at g 1 ∷ [])
    (cond (eqb t 1) (at g 0 ∷ at g 2 ∷ at g 1 ∷ []) g)

-- the row at place p among the rows of all groups, three a group
abbrev pub placed : ℕ → List Float
placed p = turned (group (p / 3)) (p % 3)

-- the place of a rule's first row
unfoldable pub first_place : QuadratureKind → ℕ
first_place Dunavant1 = 2
first_place Dunavant2 = 3
first_place Dunavant3 = 8
first_place Dunavant4 = 12
first_place Dunavant5 = 20
