-- Document 01's table: every number of a refusal with the paper's word for it. Definitions only.
use Rattle.std.specs.Prelude.{ℕ}

abbrev pub node_columns : ℕ
node_columns = 1

abbrev pub panel_columns : ℕ
panel_columns = 2

abbrev pub missing_node : ℕ
missing_node = 3

abbrev pub zero_area : ℕ
zero_area = 4

abbrev pub nodal_values : ℕ
nodal_values = 5

abbrev pub output_length : ℕ
output_length = 6

abbrev pub matrix_length : ℕ
matrix_length = 7

abbrev pub coefficients : ℕ
coefficients = 8

abbrev pub map_length : ℕ
map_length = 9

abbrev pub flux_length : ℕ
flux_length = 10

abbrev pub too_large : ℕ
too_large = 11

abbrev pub no_such_choice : ℕ
no_such_choice = 12

abbrev pub no_such_node : ℕ
no_such_node = 13

abbrev pub file_mark : ℕ
file_mark = 14

abbrev pub file_length : ℕ
file_length = 15

abbrev pub display_range : ℕ
display_range = 16

-- ---- document 02's: each comes here, and to src/lib.rt, with the request that brings it
abbrev pub unknown_name : ℕ
unknown_name = 17

abbrev pub no_place : ℕ
no_place = 18

abbrev pub not_finite : ℕ
not_finite = 19
