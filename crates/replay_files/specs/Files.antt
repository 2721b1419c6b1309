-- The replay: what a case with a file's bytes compares: the reader's number and columns, and the bytes that the program `density` prints. Definitions only.
use Rattle.std.specs.Prelude.{Bool, false, cond, ◌&&◌, List, ℕ, ◌+◌, ◌*◌, ◌≤◌, eqb, length, Float}
use Rattle.std.specs.Float.{nan}
use Rattle.ieee754.specs.Ieee754.{canonical_bits}
use Rattle.refusal.specs.Checks.{after}
use Rattle.mesh.specs.Mesh.{mesh_of, max_nodes, max_panels}
use Rattle.panel_file.specs.PanelFile.{decode, read_refusal, lengths_of}
use Rattle.density_text.specs.Text.{text}
use Rattle.replay_words.specs.Words.{length_at, cut_at, part, same_word}
use Rattle.replay_words.specs.Bytes.{bytes_end, same_bytes}
use Rattle.replay_words.specs.Buffers.{lent, lent_places, pattern, held_by}

-- six columns of at most 64 elements, and a place of the case from which as many results stand in it
abbrev pub Short : List Float → List Float → List Float → List ℕ → List ℕ → List ℕ → ℕ → Type 0
Short x y z t0 t1 t2 k =
    (length x ≤ 64) × (length y ≤ 64) × (length z ≤ 64) × (length t0 ≤ 64) × (length t1 ≤ 64) × (length t2 ≤ 64) × (k ≤ 80)

-- three columns one behind the other, of elements by their words
unfoldable pub held_three : {A : Type 0} → (A → ℕ) → A → ℕ → ℕ → List A → List A → List A → List ℕ → ℕ → Bool
held_three word beyond p r a b c w k =
    held_by word beyond p r a w k && held_by word beyond p r b w (k + length a) && held_by word beyond p r c w (k + length a + length b)

-- of numbers and of places
abbrev pub held_nodes : ℕ → List Float → List Float → List Float → List ℕ → ℕ → Bool
held_nodes r x y z w k = held_three canonical_bits nan pattern r x y z w k

abbrev pub held_panels : ℕ → List ℕ → List ℕ → List ℕ → List ℕ → ℕ → Bool
held_panels r a b c w k = held_three (λ n. n) 0 77 r a b c w k

-- a number, and six columns behind it
unfoldable pub held_columns : ℕ → List Float → List Float → List Float → List ℕ → List ℕ → List ℕ → List ℕ → ℕ → Bool
held_columns r x y z a b c w k = same_word r w k && held_nodes r x y z w (k + 1) && held_panels r a b c w (k + 1 + length x + length y + length z)

-- the reader, with the six columns that are lent
unfoldable pub read_file_into : List ℕ → List Float → List Float → List Float → List ℕ → List ℕ → List ℕ → List ℕ → ℕ → Bool
read_file_into bytes x y z a b c w k =
    let r = read_refusal max_nodes max_panels bytes (lengths_of (mesh_of x y z a b c)) in
    let m = decode bytes in
    held_columns r (after r m.xs x) (after r m.ys y) (after r m.zs z) (after r m.t0 a) (after r m.t1 b) (after r m.t2 c) w k

-- the columns' six lengths begin at place q
unfoldable pub read_panels_into : List ℕ → List Float → List Float → List Float → List ℕ → ℕ → Bool
read_panels_into bytes x y z w q =
    read_file_into bytes x y z (lent_places 64 (length_at w (q + 3))) (lent_places 64 (length_at w (q + 4))) (lent_places 64 (length_at w (q + 5))) w (q + 6)

unfoldable pub read_file_of : List ℕ → List ℕ → ℕ → Bool
read_file_of bytes w q = read_panels_into bytes (lent 64 (length_at w q)) (lent 64 (length_at w (q + 1))) (lent 64 (length_at w (q + 2))) w q

-- the bytes behind their length
unfoldable pub read_file : List ℕ → List ℕ → Bool
read_file b w =
    let n = cut_at w 0 512 in
    read_file_of (part b 8 (8 + n)) w (bytes_end n)

unfoldable pub prints : List ℕ → List ℕ → Bool
prints input stored = same_bytes (text input) stored

-- the program's standard input, then its standard output
unfoldable pub density_program : List ℕ → List ℕ → Bool
density_program b w =
    let n = cut_at w 0 512 in
    let q = bytes_end n in
    prints (part b 8 (8 + n)) (part b (8 * q + 8) (8 * q + 8 + cut_at w q 2048))

-- ---- by the kind's number
unfoldable pub files_agree : ℕ → List ℕ → List ℕ → Bool
files_agree kind b w = cond (eqb kind 33) (read_file b w) (cond (eqb kind 34) (density_program b w) false)
