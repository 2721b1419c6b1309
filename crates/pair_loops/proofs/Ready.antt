-- What the assembly's functions ask of a mesh and a matrix is kept by a matrix of the same length; and the nodes of a panel are below the counts that the calls ask for.
use mathlib.Core.Path.{◌≡◌, refl, sym, ◌∙◌, subst}
use mathlib.Core.Bool.{Bool}
use mathlib.Core.List.{List}
use Prim.Native.Nat.{ℕ, ◌≤◌}
use native.Mathlib.Nat.{lt_of_lt_of_le}
use lib.ListN.{length}
use lib.Ieee.{Float}
use Rattle.lists.specs.Counting.{triple}
use Rattle.mesh.specs.Mesh.{Mesh, nnode, triangle_indices}
use Rattle.mesh.specs.Conditions.{Below}
use Rattle.scatter.specs.Renewal.{AllBelow}
use Rattle.scatter.specs.Flags.{IndicesBelow}
use Rattle.pair_loops.specs.Ready.{Ready}

pub ready_now : (m : Mesh) (old out : List Float) (marks : List Bool) → Ready m old marks → length out ≡ length old → Ready m out marks
ready_now m old out marks w e = record {
  nodes_alike = w.nodes_alike;
  panels_alike = w.panels_alike;
  few_panels = w.few_panels;
  none_missing = w.none_missing;
  sized = record { small = w.sized.small; cells = e ∙ w.sized.cells; enough = w.sized.enough };
}

-- the nodes of a panel, read into an array, are below k where the node count is
pub panel_below : (m : Mesh) (i k : ℕ) (s : List ℕ) → Below m i → nnode m ≤ k → s ≡ triangle_indices m i → AllBelow k (triple s)
panel_below m i k s b h e =
    subst (λ (t : List ℕ). AllBelow k (triple t)) (sym e) (lt_of_lt_of_le b.below0 h, (lt_of_lt_of_le b.below1 h, (lt_of_lt_of_le b.below2 h, tt)))

pub indices_marked : (m : Mesh) (out : List Float) (marks : List Bool) → Ready m out marks → IndicesBelow (length marks) m
indices_marked m out marks w = λ i l. panel_below m i (length marks) (triangle_indices m i) (w.none_missing i l) w.sized.enough refl
