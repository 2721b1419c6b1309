-- Inner form: which panels have a marked node, so that the loops over pairs pass over the others. Definitions only.
use Rattle.std.specs.Prelude.{◌≡◌, Bool, List, ℕ, ◌<◌}
use Rattle.lists.specs.Counting.{any_of}
use Rattle.mesh.specs.Mesh.{Mesh, ntri, triangle_indices}
use Rattle.scatter.specs.Renewal.{AllBelow, marked}

-- every index of every panel is below k
abbrev pub IndicesBelow : ℕ → Mesh → Type 0
IndicesBelow k m = (i : ℕ) → i < ntri m → AllBelow k (triangle_indices m i)

-- a flag for each of the first k panels: whether one of its nodes is marked
abbrev pub Flagged : ℕ → Mesh → List Bool → List Bool → Type 0
Flagged k m marks flags = (i : ℕ) → i < k → marked flags i ≡ any_of (marked marks) (triangle_indices m i)
