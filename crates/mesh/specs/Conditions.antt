-- The conditions of document 01's table for a mesh, as statements about its columns and panels, and what the mesh's number is to be by them. Definitions only.
use Rattle.std.specs.Prelude.{◌≡◌, ◌↔◌, ◌⊎◌, true, false, ℕ, ◌<◌, ◌≤◌, length, get_or}
use Rattle.std.specs.Float.Ieee.{lt}
use Rattle.tri.specs.Mapping.{area}
use Rattle.mesh.specs.Mesh.{Mesh, nnode, ntri, triangle_nodes, smallest_area, mesh_refusal, tested_count, max_nodes, max_panels}

-- not 1
pub record NodeColumnsAlike (m : Mesh) : Type 0 where
  pub ys_long : length m.ys ≡ nnode m
  pub zs_long : length m.zs ≡ nnode m

-- not 2
pub record PanelColumnsAlike (m : Mesh) : Type 0 where
  pub t1_long : length m.t1 ≡ ntri m
  pub t2_long : length m.t2 ≡ ntri m

-- not 11
pub record WithinLimits (max_nodes max_panels : ℕ) (m : Mesh) : Type 0 where
  pub few_nodes : nnode m ≤ max_nodes
  pub few_panels : ntri m ≤ max_panels

-- the three indices of panel i are below the node count
pub record Below (m : Mesh) (i : ℕ) : Type 0 where
  pub below0 : get_or m.t0 i 0 < nnode m
  pub below1 : get_or m.t1 i 0 < nnode m
  pub below2 : get_or m.t2 i 0 < nnode m

-- one of them is not
abbrev pub Beyond : Mesh → ℕ → Type 0
Beyond m i = (nnode m ≤ get_or m.t0 i 0) ⊎ ((nnode m ≤ get_or m.t1 i 0) ⊎ (nnode m ≤ get_or m.t2 i 0))

-- 3 and not 3
abbrev pub MissingNode : Mesh → Type 0
MissingNode m = (i : ℕ) × (i < ntri m) × Beyond m i

abbrev pub NoneMissing : Mesh → Type 0
NoneMissing m = (i : ℕ) → i < ntri m → Below m i

-- 4 and not 4
abbrev pub ZeroArea : Mesh → Type 0
ZeroArea m = (i : ℕ) × (i < ntri m) × (lt (area (triangle_nodes m i)) smallest_area ≡ true)

abbrev pub NoZeroArea : Mesh → Type 0
NoZeroArea m = (i : ℕ) → i < ntri m → lt (area (triangle_nodes m i)) smallest_area ≡ false

-- Document 01's "accepted"
pub record Accepted (max_nodes max_panels : ℕ) (m : Mesh) : Type 0 where
  pub nodes_alike : NodeColumnsAlike m
  pub panels_alike : PanelColumnsAlike m
  pub limits : WithinLimits max_nodes max_panels m
  pub none_missing : NoneMissing m
  pub no_zero_area : NoZeroArea m

-- ---- each number's condition, and no earlier one's
abbrev pub Refused1 : Mesh → Type 0
Refused1 m = NodeColumnsAlike m → ⊥

abbrev pub Refused2 : Mesh → Type 0
Refused2 m = NodeColumnsAlike m × (PanelColumnsAlike m → ⊥)

abbrev pub Refused11 : ℕ → ℕ → Mesh → Type 0
Refused11 max_nodes max_panels m = NodeColumnsAlike m × PanelColumnsAlike m × (WithinLimits max_nodes max_panels m → ⊥)

abbrev pub Refused3 : ℕ → ℕ → Mesh → Type 0
Refused3 max_nodes max_panels m = NodeColumnsAlike m × PanelColumnsAlike m × WithinLimits max_nodes max_panels m × MissingNode m

abbrev pub Refused4 : ℕ → ℕ → Mesh → Type 0
Refused4 max_nodes max_panels m = NodeColumnsAlike m × PanelColumnsAlike m × WithinLimits max_nodes max_panels m × NoneMissing m × ZeroArea m

-- a number is the mesh's exactly if its condition holds and no earlier one does
pub record Numbered (max_nodes max_panels : ℕ) (m : Mesh) (r : ℕ) : Type 0 where
  pub is_1 : (r ≡ 1) ↔ Refused1 m
  pub is_2 : (r ≡ 2) ↔ Refused2 m
  pub is_11 : (r ≡ 11) ↔ Refused11 max_nodes max_panels m
  pub is_3 : (r ≡ 3) ↔ Refused3 max_nodes max_panels m
  pub is_4 : (r ≡ 4) ↔ Refused4 max_nodes max_panels m
  pub is_0 : (r ≡ 0) ↔ Accepted max_nodes max_panels m

-- the mesh's numbers of a call that tests something more, Before being what lets it come to its mesh. 4 is not among them: a move has it twice.
pub record MeshNumbered (Before : Type 0) (max_nodes max_panels : ℕ) (m : Mesh) (r : ℕ) : Type 0 where
  pub is_1 : (r ≡ 1) ↔ (Before × Refused1 m)
  pub is_2 : (r ≡ 2) ↔ (Before × Refused2 m)
  pub is_11 : (r ≡ 11) ↔ (Before × Refused11 max_nodes max_panels m)
  pub is_3 : (r ≡ 3) ↔ (Before × Refused3 max_nodes max_panels m)

-- what the mesh test answers
pub record Tested (m : Mesh) (refusal poor : ℕ) : Type 0 where
  pub number : refusal ≡ mesh_refusal max_nodes max_panels m
  pub count : poor ≡ tested_count m refusal
