-- The conditions of document 01's table for the calls on a given matrix or map: a number is the call's exactly if its condition holds and no earlier one's. Definitions only.
use Rattle.std.specs.Prelude.{◌≡◌, ◌↔◌, ◌⊎◌, ℕ, ◌*◌, ◌<◌, ◌≤◌}
use Rattle.mesh.specs.Mesh.{max_nodes}

-- n source values, t target values, a matrix of so many numbers
pub record VectorsNumbered (n t size r : ℕ) : Type 0 where
  pub is_5 : (r ≡ 5) ↔ (t ≡ n → ⊥)
  pub is_11 : (r ≡ 11) ↔ ((t ≡ n) × (max_nodes < n))
  pub is_7 : (r ≡ 7) ↔ ((t ≡ n) × (n ≤ max_nodes) × (size ≡ n * n → ⊥))
  pub is_0 : (r ≡ 0) ↔ ((t ≡ n) × (n ≤ max_nodes) × (size ≡ n * n))

-- a matrix of so many numbers for n nodes, and a node
pub record MatrixRowNumbered (size n node r : ℕ) : Type 0 where
  pub is_11 : (r ≡ 11) ↔ (max_nodes < n)
  pub is_7 : (r ≡ 7) ↔ ((n ≤ max_nodes) × (size ≡ n * n → ⊥))
  pub is_13 : (r ≡ 13) ↔ ((n ≤ max_nodes) × (size ≡ n * n) × (n ≤ node))
  pub is_0 : (r ≡ 0) ↔ ((n ≤ max_nodes) × (size ≡ n * n) × (node < n))

-- whole rows of so many sources
abbrev pub Multiple : ℕ → ℕ → Type 0
Multiple size sources = (rows : ℕ) × (size ≡ rows * sources)

-- a map of so many numbers, the source count, and the length of the output or of the nodal values
pub record MapNumbered (size sources nodes r : ℕ) : Type 0 where
  pub is_8 : (r ≡ 8) ↔ ((sources ≡ 0) × ((size ≡ 0) × (nodes ≡ 0) → ⊥))
  pub is_9 : (r ≡ 9) ↔ ((sources ≡ 0 → ⊥) × (Multiple size sources → ⊥))
  pub is_10 : (r ≡ 10) ↔ ((sources ≡ 0 → ⊥) × Multiple size sources × (size ≡ nodes * sources → ⊥))
  pub is_0 : (r ≡ 0) ↔ ((size ≡ nodes * sources) × (sources ≡ 0 → nodes ≡ 0))

-- a map of so many numbers, the source count, and a node; without sources there is no row
pub record MapRowNumbered (size sources node r : ℕ) : Type 0 where
  pub is_8 : (r ≡ 8) ↔ ((sources ≡ 0) × (size ≡ 0 → ⊥))
  pub is_9 : (r ≡ 9) ↔ ((sources ≡ 0 → ⊥) × (Multiple size sources → ⊥))
  pub is_13 : (r ≡ 13) ↔ (((sources ≡ 0) × (size ≡ 0)) ⊎ ((sources ≡ 0 → ⊥) × Multiple size sources × (size ≤ node * sources)))
  pub is_0 : (r ≡ 0) ↔ ((sources ≡ 0 → ⊥) × Multiple size sources × (node * sources < size))
