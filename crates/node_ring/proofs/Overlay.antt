-- The place of a node in the moved mesh: the new place at the moved node, the old one elsewhere.
use mathlib.Core.Path.{◌≡◌}
use Prim.Native.Nat.{ℕ}
use lib.Seq.{get_or-set_other}
use lib.Ieee.{Float, nan}
use Rattle.mesh.specs.Mesh.{Mesh, node}
use Rattle.node_ring.specs.Place.{moved}

module _ (m : Mesh) (v : ℕ) (x y z : Float) (k : ℕ) where
  pub elsewhere : (k ≡ v → ⊥) → node m k ≡ node (moved m v x y z) k
  elsewhere h =
      rw (get_or-set_other m.xs v k x nan h, get_or-set_other m.ys v k y nan h, get_or-set_other m.zs v k z nan h)
