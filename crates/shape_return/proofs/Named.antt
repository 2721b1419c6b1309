-- The shape of a name, read off the store at the place that was found: behind checks that do not apply, the call's number is that of the shape's own checks.
use mathlib.Core.Path.{◌≡◌, ap, ◌∙◌}
use mathlib.Core.Bool.{Bool, false, not, ◌||◌}
use mathlib.Core.List.{List}
use Prim.Native.Nat.{ℕ, ◌*◌}
use native.Mathlib.Omega.{arith}
use borrow.Author.Tests.{ne_eqb}
use lib.Dec.{eqb}
use lib.Ieee.{Float}
use Rattle.std.proofs.Common.{Some}
use Rattle.lists.specs.Stretch.{stretch}
use Rattle.refusal.specs.Checks.{first}
use Rattle.mesh.specs.declared.columns.NodeColumns.{NodeColumns}
use Rattle.mesh.specs.declared.columns.PanelColumns.{PanelColumns}
use Rattle.mesh.specs.Mesh.{Mesh, nnode, mesh_refusal, max_nodes, max_panels}
use Rattle.mesh.specs.Columns.{viewed_nodes}
use Rattle.mesh.proofs.Refusals.{done_passed}
use Rattle.shape_store.specs.Store.{Store, place_of, place_below, lacks_name, store_differs}
use Rattle.shape_store.proofs.Found.{place_told}
use Rattle.node_move.specs.Move.{on_panels}
use Rattle.shape_return.specs.Return.{nodes_of, on_nodes, named_shape, shape_checks, shape_refusal}

pub own_checks : (m : Mesh) (s : Store) (w : List ℕ) (size n p : ℕ) (differs : Bool)
    → 0 ≡ mesh_refusal max_nodes max_panels m
    → n ≡ nnode m
    → differs ≡ store_differs n s
    → (differs || not (eqb size (n * n))) ≡ false
    → place_below (place_of s w) ≡ Some p
    → shape_refusal m s w size ≡ mesh_refusal max_nodes max_panels (named_shape m s w)
unfolding first mesh_refusal shape_refusal
own_checks m s w size n p differs e q d f g =
    let t = place_told (place_of s w) p g in
    let known : lacks_name s w ≡ false = ne_eqb _ _ (λ z. absurd (omega (arith, z, t.0, t.1))) in
    done_passed max_nodes max_panels m (shape_checks m s w size) e ∙ rw (← q, ← d, f, known)

pub read_there : (x y z : List Float) (panels : PanelColumns) (s : Store) (w : List ℕ) (n p : ℕ) (shape : NodeColumns)
    → n ≡ nnode (on_panels x y z panels)
    → p ≡ place_of s w
    → viewed_nodes shape ≡ nodes_of (stretch s.xs n p) (stretch s.ys n p) (stretch s.zs n p)
    → on_nodes shape panels ≡ named_shape (on_panels x y z panels) s w
read_there x y z panels s w n p shape q g e =
    ap (λ (k : Mesh). on_panels k.xs k.ys k.zs panels) e ∙ rw (q, g)
