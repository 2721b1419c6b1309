-- What is read from the bytes is what the decoded mesh holds: nodes, indices and counts, and the same of its indices being below the node count. Assumes nothing.
use mathlib.Core.Path.{◌≡◌, sym, ap, ◌∙◌}
use mathlib.Core.Bool.{Bool, true, false}
use mathlib.Core.List.{List, [], ◌∷◌}
use Prim.Native.Nat.{ℕ, ◌<◌}
use native.Mathlib.Omega.{arith}
use lib.ListN.{get_or}
use lib.Ieee.{nan}
use Rattle.lists.specs.Filling.{tabulate}
use Rattle.lists.proofs.Filling.{tabulate-length, tabulate_get}
use Rattle.mesh.specs.Mesh.{node, nnode, ntri, triangle_indices, misses_node}
use Rattle.lists.specs.Counting.{some_below}
use Rattle.lists.proofs.Counting.{some_at, none_below}
use Rattle.mesh.specs.Conditions.{Below}
use Rattle.panel_file.specs.PanelFile.{node_count, panel_count, coordinate, index, decode, IndicesBelow}

module _ (b : List ℕ) where
  pub nodes : nnode (decode b) ≡ node_count b
  nodes = tabulate-length (node_count b) (coordinate b 0)

  pub panels : ntri (decode b) ≡ panel_count b
  panels = tabulate-length (panel_count b) (index b (node_count b) 0)

  node_at : (axis k : ℕ) → k < node_count b → coordinate b axis k ≡ get_or (tabulate (node_count b) (coordinate b axis)) k nan
  node_at axis k l = sym (tabulate_get nan (node_count b) (coordinate b axis) k l)

  pub node_is : (k : ℕ) → k < node_count b → coordinate b 0 k ∷ coordinate b 1 k ∷ coordinate b 2 k ∷ [] ≡ node (decode b) k
  node_is k l = (λ i. node_at 0 k l i ∷ node_at 1 k l i ∷ node_at 2 k l i ∷ [])

  pub index_at : (n corner i : ℕ) → n ≡ node_count b → i < panel_count b → index b n corner i ≡ get_or (tabulate (panel_count b) (index b (node_count b) corner)) i 0
  index_at n corner i e l = ap (λ (m : ℕ). index b m corner i) e ∙ sym (tabulate_get 0 (panel_count b) (index b (node_count b) corner) i l)

  pub indices_are : (n i : ℕ) → n ≡ node_count b → i < panel_count b → index b n 0 i ∷ index b n 1 i ∷ index b n 2 i ∷ [] ≡ triangle_indices (decode b) i
  indices_are n i e l = (λ j. index_at n 0 i e l j ∷ index_at n 1 i e l j ∷ index_at n 2 i e l j ∷ [])

  -- what the mesh says of panel i's indices, said of the bytes
  pub below : (n i : ℕ) → n ≡ node_count b → i < panel_count b → Below (decode b) i → IndicesBelow b n i
  below n i e l h =
      record {
        below0 = omega (arith, h.below0, index_at n 0 i e l, nodes);
        below1 = omega (arith, h.below1, index_at n 1 i e l, nodes);
        below2 = omega (arith, h.below2, index_at n 2 i e l, nodes);
      }

  -- ---- a test over the panels that the file counts
  pub some_panel : (t : ℕ → Bool) (i : ℕ) → i < panel_count b → t i ≡ true → some_below t (ntri (decode b)) ≡ true
  some_panel t i l e = some_at t (ntri (decode b)) i (omega (arith, panels)) e

  pub no_panel : (t : ℕ → Bool) (p : ℕ) → p ≡ panel_count b → ((k : ℕ) → k < p → t k ≡ false) → some_below t (ntri (decode b)) ≡ false
  no_panel t p e all = none_below t (ntri (decode b)) (λ k l. all k (omega (arith, panels)))

  -- with n for the mesh's node count
  pub misses_node_lem : (n : ℕ) → n ≡ node_count b → (v : List ℕ) → misses_node n v ≡ misses_node (nnode (decode b)) v
  misses_node_lem n e v = ap (λ (m : ℕ). misses_node m v) (e ∙ sym nodes)
