-- Closed files of a header alone, each with its number, computed.
use mathlib.Core.Path.{◌≡◌, refl}
use mathlib.Core.List.{List, [], ◌∷◌}
use Prim.Native.Nat.{ℕ}
use Rattle.refusal.specs.Checks.{first}
use Rattle.lists.specs.Counting.{some_below}
use Rattle.lists.specs.Filling.{tabulate_from}
use Rattle.mesh.specs.Mesh.{passes_limits, max_nodes, max_panels}
use Rattle.panel_file.specs.LittleEndian.{little_endian}
use Rattle.panel_file.specs.PanelFile.{length_due, marks_differ, length_differs, file_checks, file_refusal}

-- "PNL" of a version, a node count and a panel count, each below 256 but for the node count's second byte
abbrev headed : ℕ → ℕ → ℕ → ℕ → List ℕ
headed v n n' p = 80 ∷ 78 ∷ 76 ∷ v ∷ 0 ∷ n ∷ n' ∷ p ∷ 0 ∷ []

pub empty_accepted : file_refusal max_nodes max_panels 0 (headed 1 0 0 0) ≡ 0
unfolding file_refusal file_checks marks_differ passes_limits length_differs length_due little_endian some_below tabulate_from first
empty_accepted = refl

pub short : file_refusal max_nodes max_panels 0 (80 ∷ 78 ∷ 76 ∷ 1 ∷ 0 ∷ 0 ∷ 0 ∷ 0 ∷ []) ≡ 14
unfolding file_refusal file_checks marks_differ first
short = refl

pub other_version : file_refusal max_nodes max_panels 0 (headed 2 0 0 0) ≡ 14
unfolding file_refusal file_checks marks_differ little_endian first
other_version = refl

-- 4,097 nodes
pub large : file_refusal max_nodes max_panels 0 (headed 1 1 16 0) ≡ 11
unfolding file_refusal file_checks marks_differ passes_limits little_endian first
large = refl

-- a node that is not there
pub missing_bytes : file_refusal max_nodes max_panels 0 (headed 1 1 0 0) ≡ 15
unfolding file_refusal file_checks marks_differ passes_limits length_differs length_due little_endian first
missing_bytes = refl
