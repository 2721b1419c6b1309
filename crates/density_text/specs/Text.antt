-- Document 01's program `density`: what it prints for its standard input, byte by byte, after "Panel file". Definitions only.
use Rattle.std.specs.Prelude.{◌≡◌, cond, List, [], ◌∷◌, ◌++◌, ℕ, ltb, eqb, Float}
use Rattle.io.specs.Digits.{last_digits}
use Rattle.binary64.specs.Binary64.{at}
use Rattle.ieee754.specs.Ieee754.{canonical_bits}
use Rattle.lists.specs.Filling.{tabulate}
use Rattle.boundary_element.specs.CurrentDensity.{panel_density}
use Rattle.panel_file.specs.LittleEndian.{rows_from}
use Rattle.panel_file.specs.PanelFile.{node_count, panel_count, nodal_value, decode, file_refusal}
use Rattle.panel_file.specs.Conditions.{FileTestNumbered}

-- the program's limits
abbrev pub max_nodes : ℕ
max_nodes = 64

abbrev pub max_panels : ℕ
max_panels = 128

-- the number of an input: a panel file with one f64 a node behind it
abbrev pub input_refusal : List ℕ → ℕ
input_refusal b = file_refusal max_nodes max_panels 1 b

-- a number is the program's exactly if its condition holds and no earlier one's; 0 exactly if the input is accepted
abbrev pub InputNumbered : List ℕ → ℕ → Type 0
InputNumbered b r = FileTestNumbered max_nodes max_panels 1 b r

-- ---- numbers as text
-- a number below 1,000 in decimal
unfoldable pub decimal : ℕ → List ℕ
decimal n = last_digits 10 (cond (ltb n 10) 1 (cond (ltb n 100) 2 3)) n

-- a space and the sixteen hexadecimal digits of a number's bits
unfoldable pub field : Float → List ℕ
field x = 32 ∷ last_digits 16 16 (canonical_bits x)

-- ---- the lines
-- "refused ", the number
unfoldable pub refused_line : ℕ → List ℕ
refused_line r = (114 ∷ 101 ∷ 102 ∷ 117 ∷ 115 ∷ 101 ∷ 100 ∷ 32 ∷ []) ++ (decimal r ++ (10 ∷ []))

-- "PNL 1 ", the counts
unfoldable pub first_line : ℕ → ℕ → List ℕ
first_line n p = (80 ∷ 78 ∷ 76 ∷ 32 ∷ 49 ∷ 32 ∷ []) ++ (decimal n ++ ((32 ∷ []) ++ (decimal p ++ (10 ∷ []))))

-- the values behind the panels, one a node
unfoldable pub nodal_values : List ℕ → List Float
nodal_values b = tabulate (node_count b) (nodal_value b (node_count b) (panel_count b))

-- panel i's line, with its density j
unfoldable pub line : ℕ → List Float → List ℕ
line i j = decimal i ++ (field (at j 0) ++ (field (at j 1) ++ (field (at j 2) ++ (10 ∷ []))))

unfoldable pub panel_line : List ℕ → ℕ → List ℕ
panel_line b i = line i (panel_density (decode b) (nodal_values b) i)

unfoldable pub densities : List ℕ → List ℕ
densities b = first_line (node_count b) (panel_count b) ++ rows_from (panel_line b) 0 (panel_count b)

-- the whole output
unfoldable pub text : List ℕ → List ℕ
text b = cond (eqb (input_refusal b) 0) (densities b) (refused_line (input_refusal b))

-- ---- the input
-- n and p are an accepted input's counts
pub record Input (n p : ℕ) (b : List ℕ) : Type 0 where
  pub nodes : n ≡ node_count b
  pub panels : p ≡ panel_count b
  pub accepted : input_refusal b ≡ 0
