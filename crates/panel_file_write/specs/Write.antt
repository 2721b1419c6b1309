-- The writer of document 01's panel file, by document 02: what it answers, and what it leaves in an output of exactly the file's length. The file itself is `encode` of panel_file. Definitions only.
use Rattle.std.specs.Prelude.{◌≡◌, ◌↔◌, not, List, [], ◌∷◌, ◌++◌, ℕ, eqb, length}
use Rattle.refusal.specs.Numbers.{zero_area, output_length}
use Rattle.refusal.specs.Checks.{Check, check, first, after}
use Rattle.mesh.specs.Mesh.{Mesh, nnode, ntri, mesh_checks}
use Rattle.mesh.specs.Conditions.{Refused4, Accepted, MeshNumbered}
use Rattle.panel_file.specs.PanelFile.{length_due, decode, encode, file_refusal}

-- the bytes of a mesh's file
abbrev pub file_size : Mesh → ℕ
file_size m = length_due 0 (nnode m) (ntri m)

-- 6: an output of another size
abbrev pub size_checks : Mesh → ℕ → List Check
size_checks m size = check output_length (not (eqb size (file_size m))) ∷ []

unfoldable pub write_refusal : ℕ → ℕ → Mesh → ℕ → ℕ
write_refusal max_nodes max_panels m size = first (mesh_checks max_nodes max_panels m ++ size_checks m size)

-- a number is the call's exactly if its condition holds and no earlier one's; nothing is tested before the mesh
pub record WriteNumbered (max_nodes max_panels : ℕ) (m : Mesh) (size r : ℕ) : Type 0 where
  pub mesh : MeshNumbered Unit max_nodes max_panels m r
  pub is_4 : (r ≡ zero_area) ↔ Refused4 max_nodes max_panels m
  pub is_6 : (r ≡ output_length) ↔ (Accepted max_nodes max_panels m × (size ≡ file_size m → ⊥))
  pub is_0 : (r ≡ 0) ↔ (Accepted max_nodes max_panels m × (size ≡ file_size m))

-- what the writer answers and leaves in its output; of what it has written, that the reader takes it and gives back each coordinate and each index
pub record Written (max_nodes max_panels : ℕ) (m : Mesh) (held : List ℕ) (r : ℕ) (left : List ℕ) : Type 0 where
  pub number : r ≡ write_refusal max_nodes max_panels m (length held)
  pub bytes : left ≡ after r (encode m) held
  pub read : r ≡ 0 → file_refusal max_nodes max_panels 0 left ≡ 0
  pub back : r ≡ 0 → decode left ≡ m
