-- The number of the input of `density` by its conditions in words.
use mathlib.Core.List.{List}
use Prim.Native.Nat.{ℕ}
use Rattle.panel_file.proofs.Refusals as File
use Rattle.density_text.specs.Text.{max_nodes, max_panels, input_refusal, InputNumbered}

-- ---- the number by its conditions
pub input_numbered : (b : List ℕ) → InputNumbered b (input_refusal b)
input_numbered b = File.file_test_numbered max_nodes max_panels 1 b
