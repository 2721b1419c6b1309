-- The conditions of document 01's table for a file, as statements about its bytes, its mesh and the lent columns, and what the number is to be by them. Definitions only.
use Rattle.std.specs.Prelude.{◌≡◌, ◌↔◌, List, ℕ, ◌≤◌, length, get_or}
use Rattle.lists.specs.Columns.{ColumnsDue}
use Rattle.mesh.specs.Conditions.{WithinLimits, MissingNode, NoneMissing, ZeroArea, NoZeroArea}
use Rattle.panel_file.specs.LittleEndian.{little_endian}
use Rattle.panel_file.specs.PanelFile.{version, header, length_due, node_count, panel_count, decode, Lengths}

-- not 14
pub record Marked (b : List ℕ) : Type 0 where
  pub room : header ≤ length b
  pub P : get_or b 0 0 ≡ 80
  pub N : get_or b 1 0 ≡ 78
  pub L : get_or b 2 0 ≡ 76
  pub versioned : little_endian 2 b 3 ≡ version

-- not 15
abbrev pub LengthDue : ℕ → List ℕ → Type 0
LengthDue extra b = length b ≡ length_due extra (node_count b) (panel_count b)

-- not 6
pub record MeshColumnsDue (b : List ℕ) (l : Lengths) : Type 0 where
  pub nodes : ColumnsDue (node_count b) l.x l.y l.z
  pub panels : ColumnsDue (panel_count b) l.t0 l.t1 l.t2

-- none of the file's five
pub record AcceptedFile (max_nodes max_panels extra : ℕ) (b : List ℕ) : Type 0 where
  pub marked : Marked b
  pub limits : WithinLimits max_nodes max_panels (decode b)
  pub long : LengthDue extra b
  pub none_missing : NoneMissing (decode b)
  pub no_zero_area : NoZeroArea (decode b)

-- a number of the file's five is the answer exactly if its condition holds and no earlier one does
pub record FileNumbered (max_nodes max_panels extra : ℕ) (b : List ℕ) (r : ℕ) : Type 0 where
  pub is_14 : (r ≡ 14) ↔ (Marked b → ⊥)
  pub is_11 : (r ≡ 11) ↔ (Marked b × (WithinLimits max_nodes max_panels (decode b) → ⊥))
  pub is_15 : (r ≡ 15) ↔ (Marked b × WithinLimits max_nodes max_panels (decode b) × (LengthDue extra b → ⊥))
  pub is_3 : (r ≡ 3) ↔ (Marked b × WithinLimits max_nodes max_panels (decode b) × LengthDue extra b × MissingNode (decode b))
  pub is_4 : (r ≡ 4) ↔ (Marked b × WithinLimits max_nodes max_panels (decode b) × LengthDue extra b × NoneMissing (decode b) × ZeroArea (decode b))

-- the number of a call that tests the file and nothing more
pub record FileTestNumbered (max_nodes max_panels extra : ℕ) (b : List ℕ) (r : ℕ) : Type 0 where
  pub file : FileNumbered max_nodes max_panels extra b r
  pub is_0 : (r ≡ 0) ↔ AcceptedFile max_nodes max_panels extra b

-- the reader's number
pub record ReadNumbered (max_nodes max_panels : ℕ) (b : List ℕ) (l : Lengths) (r : ℕ) : Type 0 where
  pub file : FileNumbered max_nodes max_panels 0 b r
  pub is_6 : (r ≡ 6) ↔ (AcceptedFile max_nodes max_panels 0 b × (MeshColumnsDue b l → ⊥))
  pub is_0 : (r ≡ 0) ↔ (AcceptedFile max_nodes max_panels 0 b × MeshColumnsDue b l)
