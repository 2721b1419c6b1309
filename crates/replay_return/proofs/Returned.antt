-- What a return leaves, in the form that lent buffers are compared in: the two cases of its claim joined by the number. And the places of what stands behind the mesh.
use mathlib.Core.Path.{◌≡◌, ap}
use mathlib.Core.Bool.{Bool, cond}
use mathlib.Core.List.{List}
use Prim.Native.Nat.{ℕ, ◌+◌, ◌-◌, ◌*◌, ◌<◌, ◌≤◌}
use native.Mathlib.Omega.{arith}
use mir.Syntax.{w64}
use mir.Val.{Fits}
use lib.Dec.{eqb}
use lib.ListN.{length, take}
use lib.Ieee.{Float}
use Rattle.refusal.specs.Checks.{after}
use Rattle.lists.proofs.Indices.{index_fits}
use Rattle.mesh.specs.Mesh.{Mesh, mesh_of, nnode}
use Rattle.scatter.specs.Renewal.{renewed}
use Rattle.node_ring.specs.Ring.{named_count}
use Rattle.shape_store.specs.Store.{Store}
use Rattle.shape_return.specs.Return.{changed_ring, named_shape, ReturnClaim, ReturnedBy, Screen}
use Rattle.replay_words.specs.Words.{cut_at, part}
use Rattle.replay_columns.specs.After.{left_as_due}
use Rattle.replay_columns.specs.Store.{part_at, name_at}
use Rattle.replay_columns.proofs.Leaving.{by_number, joined, cells_short}
use Rattle.replay_shapes.specs.Shapes.{store_at}
use Rattle.replay_return.specs.Return.{return_to, return_into, return_of}

record Left (cell_of : Mesh → ℕ → ℕ → Float) (m m₁ : Mesh) (old : List Float) (r count : ℕ) (m' : Mesh) (new : List Float) : Type 0 where
  pub total : count ≡ cond (eqb r 0) (named_count (changed_ring m m₁) (nnode m)) 0
  pub cells : new ≡ after r (renewed (changed_ring m m₁) (cell_of m₁) (nnode m) old) old
  pub x : m'.xs ≡ after r m₁.xs m.xs
  pub y : m'.ys ≡ after r m₁.ys m.ys
  pub z : m'.zs ≡ after r m₁.zs m.zs

left : {Choice : Type 0} {cell_of : Mesh → ℕ → ℕ → Float} {matrix_of : Mesh → List Float}
    {refusal : ℕ} {m : Mesh} {s : Store} {name : List ℕ} {old : List Float} {r count : ℕ} {m' : Mesh} {new : List Float}
    → ReturnClaim Choice cell_of matrix_of refusal m s name old r count m' new → Left cell_of m (named_shape m s name) old r count m' new
left {r = r} h = record {
  total = by_number r _ _ _ (λ e. (h.accepted e).total) (λ n. (h.refused n).2);
  cells = joined r _ _ _ (λ e. (h.accepted e).cells) (λ n. (h.refused n).1);
  x = joined r _ _ _ (λ e. ap (λ (k : Mesh). k.xs) (h.accepted e).mesh) (λ n. ap (λ (k : Mesh). k.xs) (h.refused n).0);
  y = joined r _ _ _ (λ e. ap (λ (k : Mesh). k.ys) (h.accepted e).mesh) (λ n. ap (λ (k : Mesh). k.ys) (h.refused n).0);
  z = joined r _ _ _ (λ e. ap (λ (k : Mesh). k.zs) (h.accepted e).mesh) (λ n. ap (λ (k : Mesh). k.zs) (h.refused n).0);
}

-- a mesh of six columns, with its matrix
abbrev screen_of : List Float → List Float → List Float → List ℕ → List ℕ → List ℕ → List Float → Screen
screen_of x y z t0 t1 t2 cells = record { mesh = mesh_of x y z t0 t1 t2; cells = cells }

-- what is compared, of a return whose copies are what the case has
pub compared : (number : ℕ) (w : List ℕ) (k : ℕ) (t0 t1 t2 : List ℕ)
    {x y z x0 y0 z0 : List Float} {cells cells0 : List Float} {s : Store} {name : List ℕ} {r count : ℕ} {x' y' z' new : List Float} {t : Bool}
    → (x ≡ x0) × (y ≡ y0) × (z ≡ z0) × (cells ≡ cells0)
    → ReturnedBy number (record { entry = screen_of x y z t0 t1 t2 cells; exit = screen_of x' y' z' t0 t1 t2 new }) s name r count
    → t ≡ left_as_due r count x' y' z' new x0 y0 z0 cells0 w k
    → t ≡ return_to number (mesh_of x y z t0 t1 t2) cells s name w k
unfolding return_to
compared number w k t0 t1 t2 c h e =
    let l = left h in
    let f = rw (← c.0, ← c.1, ← c.2, ← c.3) at e in
    rw (← h.number, ← l.total, ← l.cells, ← l.x, ← l.y, ← l.z) f

-- the store and the name are those of the case
pub from-store : (number : ℕ) (m : Mesh) (cells : List Float) (b : List ℕ) (f : List Float) (w : List ℕ) (q : ℕ) {e : ℕ} {s : Store} {name : List ℕ} {t : Bool}
    → e ≡ part_at w q 5
    → s ≡ store_at b f w q
    → name ≡ name_at b e
    → t ≡ return_to number m cells s name w (e + 1)
    → t ≡ return_into number m cells b f w q
unfolding return_into
from-store number m cells b f w q he hs hn t = rw (← he, ← hs, ← hn) t

-- the return on copies that are what the case has, with what stands behind the mesh
pub behind-mesh : (number : ℕ) (b : List ℕ) (f : List Float) (w : List ℕ) (g n : ℕ) (t0 t1 t2 : List ℕ) {x y z x' y' z' cells' : List Float} {t : Bool}
    → n ≡ cut_at w g 576
    → x' ≡ x
    → y' ≡ y
    → z' ≡ z
    → cells' ≡ part f (g + 1) (g + 1 + n)
    → t ≡ return_into number (mesh_of x' y' z' t0 t1 t2) cells' b f w (g + 1 + n)
    → t ≡ return_of number (mesh_of x y z t0 t1 t2) b f w g
unfolding return_of
behind-mesh number b f w g n t0 t1 t2 hn hx hy hz hc e = rw (← hn, ← hx, ← hy, ← hz, ← hc) e

-- ---- places
-- the stored results, behind the name at e, end within the case
pub results_inside : (q e nx ny nz n : ℕ) → e ≤ q + 81 * 5 → q + 408 + n + nx + ny + nz ≤ 2048 → e + 1 + 2 + n + nx + ny + nz ≤ 2048
results_inside q e nx ny nz n h l = omega arith

pub next_fits : (q e : ℕ) → q ≤ 875 → e ≤ q + 81 * 5 → Fits w64 (e + 1)
next_fits q e h l = index_fits (omega arith)

pub name_inside : (q e : ℕ) → q ≤ 875 → e ≤ q + 81 * 5 → e ≤ 1280
name_inside q e h l = omega arith

pub mesh_inside : (g : ℕ) → g ≤ 298 → g < 2048
mesh_inside g h = omega arith

-- of what stands behind a mesh that ends at g, with a matrix of n cells: all within the case
pub record Places (g n : ℕ) : Type 0 where
  pub one : Fits w64 (g + 1)
  pub one-bytes : Fits w64 ((g + 1) * 8)
  pub matrix_end : Fits w64 (g + 1 + n)
  pub store : g + 1 + n ≤ 875

pub places : (g n : ℕ) → g ≤ 298 → n ≤ 576 → Places g n
places g n a b = record {
  one = index_fits (omega arith);
  one-bytes = index_fits (omega arith);
  matrix_end = index_fits (omega arith);
  store = omega arith;
}

-- the store of a mesh with columns of so many nodes, and the results behind it
pub store_inside : (g n nx ny nz : ℕ) (l : List Float)
    → (g ≤ 298) × (nx ≤ 48) × (ny ≤ 48) × (nz ≤ 48)
    → n ≤ 576
    → g + 1 + n + 408 + length (take (g + 1 + n - (g + 1)) l) + nx + ny + nz ≤ 2048
store_inside g n nx ny nz l a b = omega (arith, cells_short g n 576 l b)
