-- The replay: what a case of the panel file's writer compares: behind the mesh the output's length, then the number and, if it is 0, the file's bytes. Definitions only.
use Rattle.std.specs.Prelude.{Bool, false, cond, ◌&&◌, List, ℕ, ◌+◌, ◌*◌, eqb, length, Float}
use Rattle.refusal.specs.Checks.{after}
use Rattle.mesh.specs.Mesh.{Mesh, max_nodes, max_panels}
use Rattle.panel_file.specs.PanelFile.{encode}
use Rattle.panel_file_write.specs.Write.{write_refusal}
use Rattle.replay_words.specs.Words.{cut_at, size_at, part, same_word}
use Rattle.replay_words.specs.Bytes.{same_bytes}
use Rattle.replay_words.specs.Buffers.{lent_places}
use Rattle.replay_columns.specs.Columns.{column_at, mesh_at}

-- an output of at most 512 bytes after the call: the stored bytes, or on a refusal the pattern that it was lent with, 77 as of places
unfoldable pub held_bytes : ℕ → List ℕ → List ℕ → Bool
held_bytes r out stored = cond (eqb r 0) (same_bytes out stored) (same_bytes out (lent_places 512 (length out)))

unfoldable pub write_into : Mesh → List ℕ → List ℕ → List ℕ → ℕ → Bool
write_into m out stored w k =
    let r = write_refusal max_nodes max_panels m (length out) in
    same_word r w k && held_bytes r (after r (encode m) out) stored

-- behind the mesh: the output's length at place g, the number, then the file's length and its bytes
unfoldable pub write_file_of : Mesh → List ℕ → List ℕ → ℕ → Bool
write_file_of m b w g =
    let from = 8 * g + 24 in
    write_into m (lent_places 512 (cut_at w g 512)) (part b from (from + size_at w (g + 2))) w (g + 1)

unfoldable pub write_file : List ℕ → List Float → List ℕ → List ℕ → Bool
write_file b f u w = write_file_of (mesh_at f u w 0) b w (column_at w 0 6)

unfoldable pub writer_agrees : ℕ → List ℕ → List Float → List ℕ → List ℕ → Bool
writer_agrees kind b f u w = cond (eqb kind 58) (write_file b f u w) false
