-- Six columns that are a case's make its mesh.
use mathlib.Core.Path.{◌≡◌}
use mathlib.Core.List.{List}
use Prim.Native.Nat.{ℕ}
use lib.Ieee.{Float}
use Rattle.mesh.specs.Mesh.{mesh_of}
use Rattle.replay_columns.specs.Columns.{column, mesh_at}

pub mesh_of_columns : (f : List Float) (u w : List ℕ) (k : ℕ) {x y z : List Float} {t0 t1 t2 : List ℕ}
    → x ≡ column f w k 0
    → y ≡ column f w k 1
    → z ≡ column f w k 2
    → t0 ≡ column u w k 3
    → t1 ≡ column u w k 4
    → t2 ≡ column u w k 5
    → mesh_of x y z t0 t1 t2 ≡ mesh_at f u w k
unfolding mesh_at
mesh_of_columns f u w k hx hy hz h0 h1 h2 = rw (hx, hy, hz, h0, h1, h2)
