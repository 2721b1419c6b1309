-- Document 01's calls on two triangles, the rule by its number: any number but 1 to 5, and a corner above 2, is refused with 12.
use Rattle.std.specs.Prelude.{◌≡◌, ◌↔◌, ◌⊎◌, Result, ℕ, ◌+◌, ◌*◌, ◌<◌, cond, ◌||◌, List, [], ◌∷◌, ltb, Float}
use Rattle.binary64.specs.Binary64.{at, plus_zero}
use Rattle.tri.specs.Mapping.{Tri}
use Rattle.tri.specs.Quadrature.{quadrature_rule, NoSuchRule}
use Rattle.tri.specs.declared.quadrature.QuadratureKind.{QuadratureKind}
use Rattle.tri.specs.Quadrature.{Rule}
use Rattle.std.specs.Prelude.{Some, None}
use Rattle.refusal.specs.Numbers.{no_such_choice}
use Rattle.refusal.specs.Outcome.{number_of, value_or}
use Rattle.refusal.specs.declared.Refusal.{Refusal}
use Rattle.coupling.specs.Coupling.{geometric_coupling, geometric_coupling_regular}
use Rattle.coupling.specs.Block.{mutual_inductance_block}

-- a number of document 01's table, and a value, which is zero on a refusal
pub record Answer : Type 0 where
  pub refusal : ℕ
  pub value : Float

pub record BlockAnswer : Type 0 where
  pub refusal : ℕ
  pub values : List Float

abbrev pub done : Float → Answer
done v = record { refusal = 0; value = v }

-- no such choice: 12 and +0
unfoldable pub refused : Answer
refused = record { refusal = no_such_choice; value = plus_zero }

-- f of the rule, or 12
unfoldable pub answer_of : Rule → (QuadratureKind → Float) → Answer
answer_of (Some kind) f = done (f kind)
answer_of None f = refused

unfoldable pub triangle_geometric_coupling : ℕ → Tri → Tri → Answer
triangle_geometric_coupling rule source target = answer_of (quadrature_rule rule) (λ kind. geometric_coupling kind source target)

unfoldable pub triangle_geometric_coupling_regular : ℕ → Tri → Tri → Answer
triangle_geometric_coupling_regular rule source target = answer_of (quadrature_rule rule) (λ kind. geometric_coupling_regular kind source target)

abbrev pub nine_zeros : List Float
nine_zeros = plus_zero ∷ plus_zero ∷ plus_zero ∷ plus_zero ∷ plus_zero ∷ plus_zero ∷ plus_zero ∷ plus_zero ∷ plus_zero ∷ []

-- a `Result` as such an answer
abbrev pub answered : Result Float Refusal → Answer
answered r = record { refusal = number_of r; value = value_or plus_zero r }

abbrev pub block_answered : Result (List Float) Refusal → BlockAnswer
block_answered r = record { refusal = number_of r; values = value_or nine_zeros r }

unfoldable pub block_of : Rule → Tri → Tri → BlockAnswer
block_of (Some kind) source target = record { refusal = 0; values = mutual_inductance_block kind source target }
block_of None source target = record { refusal = no_such_choice; values = nine_zeros }

unfoldable pub triangle_basis_mutual_inductance_block : ℕ → Tri → Tri → BlockAnswer
triangle_basis_mutual_inductance_block rule source target = block_of (quadrature_rule rule) source target

-- the entry of source corner i and target corner j
unfoldable pub triangle_basis_mutual_inductance : ℕ → Tri → ℕ → Tri → ℕ → Answer
triangle_basis_mutual_inductance rule source i target j =
    cond (ltb 2 i || ltb 2 j) refused
    (answer_of (quadrature_rule rule) (λ kind. at (mutual_inductance_block kind source target) (i * 3 + j)))

-- ---- the numbers
-- the number of a call that refuses a choice and nothing else: 12 exactly if there is no such choice, 0 exactly if there is
pub record ChoiceNumbered (NoSuchChoice : Type 0) (r : ℕ) : Type 0 where
  pub is_12 : (r ≡ no_such_choice) ↔ NoSuchChoice
  pub is_0 : (r ≡ 0) ↔ (NoSuchChoice → ⊥)

-- an entry's choices: two corners and the rule
abbrev pub NoSuchEntry : ℕ → ℕ → ℕ → Type 0
NoSuchEntry rule i j = (2 < i) ⊎ ((2 < j) ⊎ NoSuchRule rule)
