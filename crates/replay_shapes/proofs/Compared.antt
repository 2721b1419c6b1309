-- What a save or a drop leaves, in the form that a store is compared in: the two cases of its claim joined by the number. And the lengths and places of what is compared.
use mathlib.Core.Path.{◌≡◌, ap, ◌∙◌}
use mathlib.Core.Bool.{Bool}
use mathlib.Core.List.{List}
use Prim.Native.Nat.{ℕ, ◌+◌, ◌*◌, ◌<◌, ◌≤◌}
use native.Mathlib.Omega.{arith}
use mir.Syntax.{w64}
use mir.Val.{Fits}
use lib.ListN.{length}
use lib.Ieee.{Float}
use Rattle.lists.proofs.Indices.{index_fits}
use Rattle.mesh.specs.Mesh.{Mesh}
use Rattle.shape_store.specs.Store.{Store, store_of, Saved, Dropped}
use Rattle.replay_columns.specs.Store.{bytes_at, numbers_at, part_at, name_at}
use Rattle.replay_columns.proofs.Leaving.{by_number}
use Rattle.replay_shapes.specs.Shapes.{store_at, saved_as_due, save_into, dropped_as_due, drop_into}

-- a save whose copies are what the case has, and are lent as a store
pub save_compared : (b w : List ℕ) (e : ℕ) {m : Mesh} {s s0 s' s'' : Store} {name : List ℕ} {r : ℕ} {t : Bool}
    → name ≡ name_at b e
    → s ≡ s0
    → Saved m s name r s'
    → s'' ≡ s'
    → t ≡ saved_as_due r s'' s0 b w (e + 1)
    → t ≡ save_into m s b w e
unfolding save_into
save_compared b w e {r = r} n c h l d = rw (← n, ← h.number, ← by_number r _ _ _ h.done h.refused, ← l, c) d

-- a drop whose copy is what the case has
pub drop_compared : (b w marks0 : List ℕ) (e : ℕ) {m : Mesh} {s s' : Store} {name : List ℕ} {r : ℕ} {t : Bool}
    → name ≡ name_at b e
    → s.marks ≡ marks0
    → Dropped m s name r s'
    → t ≡ dropped_as_due r s'.marks marks0 b w (e + 1)
    → t ≡ drop_into m s b w e
unfolding drop_into
drop_compared b w marks0 e {r = r} n c h d = rw (← n, ← h.number, ← by_number r _ _ _ h.done h.refused, c) d

-- the parts of two stores
pub stores_alike : {marks marks0 names names0 : List ℕ} {x x0 y y0 z z0 : List Float}
    → marks ≡ marks0
    → names ≡ names0
    → x ≡ x0
    → y ≡ y0
    → z ≡ z0
    → store_of marks names x y z ≡ store_of marks0 names0 x0 y0 z0
stores_alike m n x y z = rw (m, n, x, y, z)

-- the parts of a case's store
pub store_of_parts : (b : List ℕ) (f : List Float) (w : List ℕ) (q : ℕ) {marks names : List ℕ} {x y z : List Float}
    → marks ≡ bytes_at b w (part_at w q 0)
    → names ≡ bytes_at b w (part_at w q 1)
    → x ≡ numbers_at f w (part_at w q 2)
    → y ≡ numbers_at f w (part_at w q 3)
    → z ≡ numbers_at f w (part_at w q 4)
    → store_of marks names x y z ≡ store_at b f w q
unfolding store_at
store_of_parts b f w q m n x y z = stores_alike m n x y z

-- what a call leaves of columns that are what the case has is as long
pub as_long : (nx ny nz : ℕ) {s s0 : Store}
    → s ≡ s0
    → nx ≡ length s.xs
    → ny ≡ length s.ys
    → nz ≡ length s.zs
    → (nx ≡ length s0.xs) × (ny ≡ length s0.ys) × (nz ≡ length s0.zs)
as_long nx ny nz e x y z =
    (x ∙ ap (λ (s : Store). length s.xs) e, y ∙ ap (λ (s : Store). length s.ys) e, z ∙ ap (λ (s : Store). length s.zs) e)

-- the stored columns end within the case
pub columns_inside : (k p nx ny nz mx my mz : ℕ)
    → k ≤ 704
    → (mx ≤ 80) × (my ≤ 80) × (mz ≤ 80)
    → (nx ≡ mx) × (ny ≡ my) × (nz ≡ mz)
    → p ≤ k + 1 + 81 * 2
    → p + nx + ny + nz ≤ 2048
columns_inside k p nx ny nz mx my mz h s l b = omega arith

-- ---- places
-- a store that begins behind a mesh, and its name
pub store_inside : (q : ℕ) → q ≤ 298 → q ≤ 875
store_inside q h = omega arith

pub name_inside : (q e : ℕ) → q ≤ 298 → e ≤ q + 81 * 5 → e ≤ 703
name_inside q e h b = omega arith

-- the number stands behind the name
pub next_inside : (e : ℕ) → e ≤ 703 → e + 1 ≤ 704
next_inside e h = omega arith

pub next_fits : (e : ℕ) → e ≤ 703 → Fits w64 (e + 1)
next_fits e h = index_fits (omega arith)

-- the number stands at k, the stored marks behind it
pub number_inside : (k : ℕ) → k ≤ 704 → k < 2048
number_inside k h = omega arith

pub number_fits : (k : ℕ) → k ≤ 704 → Fits w64 (k + 1)
number_fits k h = index_fits (omega arith)

pub results_inside : (k : ℕ) → k ≤ 704 → k + 1 ≤ 875
results_inside k h = omega arith

-- a part is short enough to be copied
pub part_short : (n : ℕ) → n ≤ 80 → n ≤ 576
part_short n h = omega arith
