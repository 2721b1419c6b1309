-- Inner form: a change of the places of some nodes, for the laws on cells that it leaves alone. Definitions only.
use Rattle.std.specs.Prelude.{◌≡◌, Bool, true, false, ℕ, ◌<◌}
use Rattle.lists.specs.Counting.{any_of}
use Rattle.mesh.specs.Mesh.{Mesh, node, ntri, triangle_indices}
use Rattle.scatter.specs.Entries.{same}

-- m' has m's panels, and every node that is not changed is where it was
pub record Changed (changed : ℕ → Bool) (m m' : Mesh) : Type 0 where
  pub t0_same : m'.t0 ≡ m.t0
  pub t1_same : m'.t1 ≡ m.t1
  pub t2_same : m'.t2 ≡ m.t2
  pub kept : (a : ℕ) → changed a ≡ false → node m' a ≡ node m a

-- a is on no panel that holds a changed node
abbrev pub Apart : Mesh → (ℕ → Bool) → ℕ → Type 0
Apart m changed a = (p : ℕ) → p < ntri m → any_of changed (triangle_indices m p) ≡ true → any_of (same a) (triangle_indices m p) ≡ false
