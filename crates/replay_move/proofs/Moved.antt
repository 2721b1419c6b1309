-- What a move leaves, in the form that lent buffers are compared in: the two cases of its claim joined by the number. And the places of what stands behind the mesh.
use mathlib.Core.Path.{◌≡◌, ap}
use mathlib.Core.Bool.{Bool, cond}
use mathlib.Core.List.{List}
use Prim.Native.Nat.{ℕ, ◌+◌, ◌-◌, ◌*◌, ◌<◌, ◌≤◌}
use native.Mathlib.Omega.{arith}
use mir.Syntax.{w64}
use mir.Val.{Fits}
use lib.Dec.{eqb}
use lib.ListN.{length, get_or, take}
use lib.Ieee.{Float}
use Rattle.refusal.specs.Checks.{after}
use Rattle.binary64.specs.Binary64.{at}
use Rattle.mesh.specs.Mesh.{Mesh, mesh_of, nnode}
use Rattle.scatter.specs.Entries.{same}
use Rattle.scatter.specs.Renewal.{renewed}
use Rattle.node_move.specs.Move.{moved, ring, named_count, MoveClaim, MovedBy}
use Rattle.replay_words.specs.Words.{cut_at, part, vector_at}
use Rattle.replay_columns.specs.After.{left_as_due}
use Rattle.replay_columns.proofs.Leaving.{by_number, joined, cells_short}
use Rattle.lists.proofs.Indices.{index_fits}
use Rattle.replay_move.specs.Move.{move_into, move_of}

record Left (cell_of : Mesh → ℕ → ℕ → Float) (m : Mesh) (old : List Float) (v : ℕ) (px py pz : Float) (r count : ℕ) (m' : Mesh) (new : List Float) : Type 0 where
  pub total : count ≡ cond (eqb r 0) (named_count (ring m (same v)) (nnode m)) 0
  pub cells : new ≡ after r (renewed (ring m (same v)) (cell_of (moved m v px py pz)) (nnode m) old) old
  pub x : m'.xs ≡ after r (moved m v px py pz).xs m.xs
  pub y : m'.ys ≡ after r (moved m v px py pz).ys m.ys
  pub z : m'.zs ≡ after r (moved m v px py pz).zs m.zs

left : {Choice : Type 0} {cell_of : Mesh → ℕ → ℕ → Float} {matrix_of : Mesh → List Float}
    {refusal : ℕ} {m : Mesh} {old : List Float} {v : ℕ} {px py pz : Float} {r count : ℕ} {m' : Mesh} {new : List Float}
    → MoveClaim Choice cell_of matrix_of refusal m old v px py pz r count m' new → Left cell_of m old v px py pz r count m' new
left {r = r} h = record {
  total = by_number r _ _ _ (λ e. (h.accepted e).total) (λ n. (h.refused n).2);
  cells = joined r _ _ _ (λ e. (h.accepted e).cells) (λ n. (h.refused n).1);
  x = joined r _ _ _ (λ e. ap (λ (k : Mesh). k.xs) (h.accepted e).mesh) (λ n. ap (λ (k : Mesh). k.xs) (h.refused n).0);
  y = joined r _ _ _ (λ e. ap (λ (k : Mesh). k.ys) (h.accepted e).mesh) (λ n. ap (λ (k : Mesh). k.ys) (h.refused n).0);
  z = joined r _ _ _ (λ e. ap (λ (k : Mesh). k.zs) (h.accepted e).mesh) (λ n. ap (λ (k : Mesh). k.zs) (h.refused n).0);
}

-- what is compared, of a move whose copies are what the case has
pub compared : (number : ℕ) (p : List Float) (w : List ℕ) (k : ℕ) (t0 t1 t2 : List ℕ)
    {x y z x0 y0 z0 : List Float} {cells cells0 : List Float} {v r count : ℕ} {x' y' z' new : List Float} {b : Bool}
    → (x ≡ x0) × (y ≡ y0) × (z ≡ z0) × (cells ≡ cells0)
    → MovedBy number (mesh_of x y z t0 t1 t2) cells v (at p 0) (at p 1) (at p 2) r count (mesh_of x' y' z' t0 t1 t2) new
    → b ≡ left_as_due r count x' y' z' new x0 y0 z0 cells0 w k
    → b ≡ move_into number (mesh_of x y z t0 t1 t2) cells v p w k
unfolding move_into
compared number p w k t0 t1 t2 s h e =
    let l = left h in
    let f = rw (← s.0, ← s.1, ← s.2, ← s.3) at e in
    rw (← h.number, ← l.total, ← l.cells, ← l.x, ← l.y, ← l.z) f

-- the places of what stands behind a mesh that ends at g, with a matrix of n cells: all within the case
pub record Places (g n : ℕ) : Type 0 where
  pub one : Fits w64 (g + 1)
  pub one-bytes : Fits w64 ((g + 1) * 8)
  pub matrix_end : Fits w64 (g + 1 + n)
  pub end_bytes : Fits w64 ((g + 1 + n) * 8)
  pub inside : g + 1 + n < 2048
  pub vector : g + 2 + n + 3 ≤ 2048
  pub two : Fits w64 (g + 2)
  pub place : Fits w64 (g + 2 + n)
  pub five : Fits w64 (g + 5)
  pub results : Fits w64 (g + 5 + n)

pub places : (g n : ℕ) → g ≤ 298 → n ≤ 576 → Places g n
places g n a b = record {
  one = index_fits (omega arith);
  one-bytes = index_fits (omega arith);
  matrix_end = index_fits (omega arith);
  end_bytes = index_fits (omega arith);
  inside = omega arith;
  vector = omega arith;
  two = index_fits (omega arith);
  place = index_fits (omega arith);
  five = index_fits (omega arith);
  results = index_fits (omega arith);
}

-- the stored results, with columns of so many nodes, end within the case
pub results_inside : (g n nx ny nz : ℕ) (l : List Float)
    → (g ≤ 298) × (nx ≤ 48) × (ny ≤ 48) × (nz ≤ 48)
    → n ≤ 576
    → g + 5 + n + 2 + length (take (g + 1 + n - (g + 1)) l) + nx + ny + nz ≤ 2048
results_inside g n nx ny nz l a b = omega (arith, cells_short g n 576 l b)

-- the place behind a mesh is within the case
pub behind_inside : (g : ℕ) → g ≤ 298 → g < 2048
behind_inside g h = omega arith

-- the move on copies that are what the case has, with what stands behind the mesh
pub behind-mesh : (rule : ℕ) (f : List Float) (w : List ℕ) (g n : ℕ) (p : List Float) (t0 t1 t2 : List ℕ) {x y z x' y' z' cells' : List Float} {b : Bool}
    → n ≡ cut_at w g 576
    → p ≡ vector_at f (g + 2 + n)
    → x' ≡ x
    → y' ≡ y
    → z' ≡ z
    → cells' ≡ part f (g + 1) (g + 1 + n)
    → b ≡ move_into rule (mesh_of x' y' z' t0 t1 t2) cells' (get_or w (g + 1 + n) 0) p w (g + 5 + n)
    → b ≡ move_of rule (mesh_of x y z t0 t1 t2) f w g
unfolding move_of
behind-mesh rule f w g n p t0 t1 t2 hn hp hx hy hz hc e = rw (← hn, ← hp, ← hx, ← hy, ← hz, ← hc) e
