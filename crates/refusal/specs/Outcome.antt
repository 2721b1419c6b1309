-- How a call's `Result` is read as document 01's answer: a number, 0 where the call is done, and a value, which is zero on a refusal. Definitions only.
use Rattle.std.specs.Prelude.{ℕ, Result, Ok, Err}
use Rattle.refusal.specs.Numbers.{node_columns, panel_columns, missing_node, zero_area, nodal_values, output_length, matrix_length, coefficients, map_length, flux_length, too_large, no_such_choice, no_such_node, file_mark, file_length, display_range, unknown_name, no_place, not_finite}
use Rattle.refusal.specs.declared.Refusal.{Refusal}
use Rattle.refusal.specs.declared.Refusal.TheVariants as R

abbrev pub number : Refusal → ℕ
number R.NodeColumns = node_columns
number R.PanelColumns = panel_columns
number R.MissingNode = missing_node
number R.ZeroArea = zero_area
number R.NodalValues = nodal_values
number R.Output = output_length
number R.Matrix = matrix_length
number R.Coefficients = coefficients
number R.Map = map_length
number R.Flux = flux_length
number R.TooLarge = too_large
number R.NoSuchChoice = no_such_choice
number R.NoSuchNode = no_such_node
number R.Mark = file_mark
number R.FileLength = file_length
number R.Display = display_range
number R.UnknownName = unknown_name
number R.NoPlace = no_place
number R.NotFinite = not_finite

abbrev pub number_of : {A : Type 0} → Result A Refusal → ℕ
number_of (Ok a) = 0
number_of (Err r) = number r

-- the value, or zero
abbrev pub value_or : {A : Type 0} → A → Result A Refusal → A
value_or zero (Ok a) = a
value_or zero (Err r) = zero
