-- inductance.rs: a map of one row a node and one column a source, applied to source coefficients. Nothing is fused. Definitions only.
use Rattle.std.specs.Prelude.{◌≡◌, Bool, not, ◌&&◌, ◌||◌, List, [], ◌∷◌, ℕ, ◌/◌, ◌%◌, eqb, length, Float}
use Rattle.binary64.specs.Binary64.{◌⊗◌, at}
use Rattle.refusal.specs.Numbers.{coefficients, map_length, flux_length}
use Rattle.refusal.specs.Checks.{Check, check, first, after}
use Rattle.lists.specs.Filling.{tabulate}
use Rattle.lists.specs.Sums.{sum_to}
use Rattle.linkage.specs.Answer.{Answered}
use Rattle.lists.specs.Stretch.{stretch}

-- the first k products of a row and the coefficients, added from +0 on
abbrev pub flux_to : List Float → List Float → ℕ → Float
flux_to row cs k = sum_to (λ j. at row j ⊗ at cs j) k

-- the flux of one row
abbrev pub flux_of_row : List Float → List Float → Float
flux_of_row row cs = flux_to row cs (length cs)

-- the flux of row i of a map
abbrev pub row_flux : List Float → List Float → ℕ → Float
row_flux map cs i = flux_of_row (stretch map (length cs) i) cs

-- the flux of n rows
abbrev pub flux_linkage : List Float → List Float → ℕ → List Float
flux_linkage map cs n = tabulate n (row_flux map cs)

-- s_i times the flux of row i, for the first n rows, added from +0 on
abbrev pub interaction_to : List Float → List Float → List Float → ℕ → Float
interaction_to map s cs n = sum_to (λ i. at s i ⊗ row_flux map cs i) n

abbrev pub interaction_energy : List Float → List Float → List Float → Float
interaction_energy map s cs = interaction_to map s cs (length s)

-- 8: no sources, but something to apply them to
unfoldable pub lacks_sources : ℕ → ℕ → ℕ → Bool
lacks_sources size sources nodes = eqb sources 0 && (not (eqb size 0) || not (eqb nodes 0))

-- 9: not a whole number of rows
unfoldable pub broken_rows : ℕ → ℕ → Bool
broken_rows size sources = not (eqb sources 0) && not (eqb (size % sources) 0)

-- 10: not a number for each row
unfoldable pub rows_differ : ℕ → ℕ → ℕ → Bool
rows_differ size sources nodes = not (eqb sources 0) && not (eqb nodes (size / sources))

-- 8, 9, 10: a map of so many numbers, the source count, and the length of the output or of the nodal values
abbrev pub map_checks : ℕ → ℕ → ℕ → List Check
map_checks size sources nodes =
    check coefficients (lacks_sources size sources nodes) ∷ check map_length (broken_rows size sources) ∷ check flux_length (rows_differ size sources nodes) ∷ []

unfoldable pub map_refusal : ℕ → ℕ → ℕ → ℕ
map_refusal size sources nodes = first (map_checks size sources nodes)

-- what the flux call answers and leaves
pub record Linked (map cs out : List Float) (r : ℕ) (out' : List Float) : Type 0 where
  pub refusal : r ≡ map_refusal (length map) (length cs) (length out)
  pub flux : out' ≡ after r (flux_linkage map cs (length out)) out

-- what the interaction energy's call answers
abbrev pub InteractionAnswered : List Float → List Float → List Float → ℕ → Float → Type 0
InteractionAnswered map s coefficients r v = Answered (map_refusal (length map) (length coefficients) (length s)) (interaction_energy map s coefficients) r v
