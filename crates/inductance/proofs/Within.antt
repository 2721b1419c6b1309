-- Every addition of a mesh whose indices are below n goes to a cell of the n × n matrix.
use Prim.Native.Nat.{ℕ, zero, suc, ◌+◌, ◌-◌, ◌<◌, ◌≤◌}
use mathlib.Core.List.{List, [], ◌∷◌}
use native.Mathlib.Omega.{arith}
use lib.Dec.{eqb}
use lib.Ieee.{Float}
use Rattle.mesh.specs.Mesh.{Mesh, nnode, ntri, triangle_indices, triangle_nodes}
use Rattle.mesh.specs.Conditions.{Below, NoneMissing}
use Rattle.scatter.specs.Entries.{row_entries, block_entries}
use Rattle.scatter.specs.Renewal.{Within, AllBelow}
use Rattle.scatter.proofs.Cells.{within-append, within_both}
use Rattle.pair_loops.specs.Additions.{Block, pair_entries, target_entries, source_entries, entries}

row_within : (n x : ℕ) (t : List ℕ) (v : List Float) (k : ℕ) → x < n → AllBelow n t → Within n (row_entries x t v k)
unfolding row_entries
row_within n x [] v k h b = tt
row_within n x (y ∷ t) v k h b = (h, b.0, row_within n x t v (suc k) h b.1)

block_within : (n : ℕ) (s t : List ℕ) (v : List Float) (k : ℕ) → AllBelow n s → AllBelow n t → Within n (block_entries s t v k)
unfolding block_entries
block_within n [] t v k a b = tt
block_within n (x ∷ s) t v k a b =
    within-append n (row_entries x t v k) (block_entries s t v (k + 3)) (row_within n x t v k a.0 b) (block_within n s t v (k + 3) a.1 b)

pub indices_below : (m : Mesh) (i : ℕ) → Below m i → AllBelow (nnode m) (triangle_indices m i)
indices_below m i b = (b.below0, (b.below1, (b.below2, tt)))

module _ (f : Block) (m : Mesh) (ok : NoneMissing m) where
  pair_within : (i j : ℕ) → i < ntri m → j < ntri m → Within (nnode m) (pair_entries f m i j)
  unfolding pair_entries
  pair_within i j li lj =
      within_both (nnode m) (eqb i j) (block_entries (triangle_indices m i) (triangle_indices m j) (f (triangle_nodes m i) (triangle_nodes m j)) 0)
      (block_within (nnode m) (triangle_indices m i) (triangle_indices m j) (f (triangle_nodes m i) (triangle_nodes m j)) 0 (indices_below m i (ok i li)) (indices_below m j (ok j lj)))

  targets_within : (c i j : ℕ) → i < ntri m → j + c ≤ ntri m → Within (nnode m) (target_entries f m i j c)
  unfolding target_entries
  targets_within zero i j li lj = tt
  targets_within (suc c) i j li lj =
      within-append (nnode m) (pair_entries f m i j) (target_entries f m i (suc j) c) (pair_within i j li (omega arith)) (targets_within c i (suc j) li (omega arith))

  sources_within : (c i : ℕ) → i + c ≤ ntri m → Within (nnode m) (source_entries f m i c)
  unfolding source_entries
  sources_within zero i l = tt
  sources_within (suc c) i l =
      within-append (nnode m) (target_entries f m i i (ntri m - i)) (source_entries f m (suc i) c) (targets_within (ntri m - i) i i (omega arith) (omega arith)) (sources_within c (suc i) (omega arith))

  pub entries-within : Within (nnode m) (entries f m)
  entries-within = sources_within (ntri m) 0 (omega arith)
