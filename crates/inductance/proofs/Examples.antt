-- Two panels without a common node, at any places and for any block: which additions a cell gets, read off the list. The second panel's own cell gets its block's first number, as the second
-- source and no other gives it; a cell between the panels and its transpose get the same number of the pair's one block, source first.
use mathlib.Core.Path.{◌≡◌, refl}
use mathlib.Core.List.{List, [], ◌∷◌}
use lib.Ieee.{Float}
use Rattle.binary64.specs.Binary64.{at}
use Rattle.mesh.specs.Mesh.{Mesh, mesh_of, triangle_nodes}
use Rattle.scatter.specs.Entries.{row_entries, block_entries, oriented, with_transposed, contributions}
use Rattle.pair_loops.specs.Additions.{Block, pair_entries, target_entries, source_entries, entries}

module _ (f : Block) (x y z : List Float) where
  abbrev two : Mesh
  two = mesh_of x y z (0 ∷ 3 ∷ []) (1 ∷ 4 ∷ []) (2 ∷ 5 ∷ [])

  pub second_own : contributions (entries f two) 3 3 ≡ at (f (triangle_nodes two 1) (triangle_nodes two 1)) 0 ∷ []
  unfolding source_entries target_entries pair_entries with_transposed oriented block_entries row_entries
  second_own = refl

  pub between : contributions (entries f two) 0 4 ≡ at (f (triangle_nodes two 0) (triangle_nodes two 1)) 1 ∷ []
  unfolding source_entries target_entries pair_entries with_transposed oriented block_entries row_entries
  between = refl

  pub between_transposed : contributions (entries f two) 4 0 ≡ at (f (triangle_nodes two 0) (triangle_nodes two 1)) 1 ∷ []
  unfolding source_entries target_entries pair_entries with_transposed oriented block_entries row_entries
  between_transposed = refl
