-- The replay: whether a case's results are ours: what its kind compares, of its bytes. Definitions only.
use Rattle.std.specs.Prelude.{Bool, ◌||◌, List, ℕ}
use Rattle.replay_meshes.specs.Meshes.{meshes_agree}
use Rattle.replay_maps.specs.Maps.{maps_agree, rows_agree}
use Rattle.replay_maps.specs.Shown.{shown_agree}
use Rattle.replay_files.specs.Files.{files_agree}
use Rattle.replay_writer.specs.Writer.{writer_agrees}
use Rattle.replay_shapes.specs.Shapes.{shapes_agree}
use Rattle.replay_cases.specs.Case.{words_of, numbers_of, places_of}

-- a kind that is none of these agrees with nothing
unfoldable pub agrees : ℕ → List ℕ → Bool
agrees kind b =
    let w = words_of b in
    let f = numbers_of w in
    let u = places_of w in
    meshes_agree kind f u w
    || maps_agree kind f w
    || rows_agree kind f w
    || shown_agree kind f w
    || files_agree kind b w
    || writer_agrees kind b f u w
    || shapes_agree kind b f u w
