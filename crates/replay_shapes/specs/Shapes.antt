-- The replay: what a case compares that saves or drops a shape: behind the mesh the store and the name, then the number and, if it is 0, what was written. Definitions only.
use Rattle.std.specs.Prelude.{◌≡◌, Bool, false, cond, ◌&&◌, List, ℕ, ◌+◌, ◌≤◌, eqb, length, Float}
use Rattle.mesh.specs.Mesh.{Mesh}
use Rattle.shape_store.specs.Store.{Store, store_of, saved, dropped, save_refusal, drop_refusal}
use Rattle.replay_words.specs.Words.{same_word}
use Rattle.replay_words.specs.Bytes.{kept_bytes}
use Rattle.replay_columns.specs.After.{kept_columns}
use Rattle.replay_columns.specs.Columns.{column_at, mesh_at}
use Rattle.replay_columns.specs.Store.{bytes_at, numbers_at, part_at, name_at}

-- the store that begins at place q
unfoldable pub store_at : List ℕ → List Float → List ℕ → ℕ → Store
store_at b f w q =
    store_of (bytes_at b w (part_at w q 0)) (bytes_at b w (part_at w q 1)) (numbers_at f w (part_at w q 2)) (numbers_at f w (part_at w q 3)) (numbers_at f w (part_at w q 4))

-- its columns are no longer than those of a case
abbrev pub ColumnsShort : Store → Type 0
ColumnsShort s = (length s.xs ≤ 80) × (length s.ys ≤ 80) × (length s.zs ≤ 80)

-- so are its marks and names
abbrev pub PartsShort : Store → Type 0
PartsShort s = (length s.marks ≤ 80) × (length s.names ≤ 80) × ColumnsShort s

-- a store's columns after a call are as long as before it
abbrev pub AsLong : Store → Store → Type 0
AsLong s s0 = (length s.xs ≡ length s0.xs) × (length s.ys ≡ length s0.ys) × (length s.zs ≡ length s0.zs)

-- a store after a call that answered r: what is due, or on a refusal what it was
abbrev pub store_after : ℕ → Store → Store → Store
store_after r due s = cond (eqb r 0) due s

-- number and store after a save, and the store before it: marks and names stand behind the number with their lengths, the columns without
unfoldable pub saved_as_due : ℕ → Store → Store → List ℕ → List ℕ → ℕ → Bool
saved_as_due r s s0 b w k =
    let q = k + 1 in
    let marks = kept_bytes r s.marks s0.marks (bytes_at b w (part_at w q 0)) in
    let names = kept_bytes r s.names s0.names (bytes_at b w (part_at w q 1)) in
    let columns = kept_columns r s.xs s.ys s.zs s0.xs s0.ys s0.zs w (part_at w q 2) in
    same_word r w k && marks && names && columns

-- the mesh saved in a store; the name stands at place e, the results behind it
unfoldable pub save_into : Mesh → Store → List ℕ → List ℕ → ℕ → Bool
save_into m s b w e =
    let r = save_refusal m s (name_at b e) in
    saved_as_due r (store_after r (saved m s (name_at b e)) s) s b w (e + 1)

-- number and marks after a drop, and the marks before it
unfoldable pub dropped_as_due : ℕ → List ℕ → List ℕ → List ℕ → List ℕ → ℕ → Bool
dropped_as_due r marks marks0 b w k = same_word r w k && kept_bytes r marks marks0 (bytes_at b w (k + 1))

unfoldable pub drop_into : Mesh → Store → List ℕ → List ℕ → ℕ → Bool
drop_into m s b w e =
    let r = drop_refusal m s (name_at b e) in
    dropped_as_due r (store_after r (dropped s (name_at b e)) s).marks s.marks b w (e + 1)

-- the mesh is the first input, and the store begins behind it
unfoldable pub save_case : List ℕ → List Float → List ℕ → List ℕ → Bool
save_case b f u w =
    let q = column_at w 0 6 in
    save_into (mesh_at f u w 0) (store_at b f w q) b w (part_at w q 5)

unfoldable pub drop_case : List ℕ → List Float → List ℕ → List ℕ → Bool
drop_case b f u w =
    let q = column_at w 0 6 in
    drop_into (mesh_at f u w 0) (store_at b f w q) b w (part_at w q 5)

-- ---- by the kind's number
unfoldable pub shapes_agree : ℕ → List ℕ → List Float → List ℕ → List ℕ → Bool
shapes_agree kind b f u w = cond (eqb kind 59) (save_case b f u w) (cond (eqb kind 60) (drop_case b f u w) false)
