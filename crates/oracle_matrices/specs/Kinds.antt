-- The replay: whether a case's results are ours: what its kind compares, of its bytes. Definitions only.
use Rattle.std.specs.Prelude.{Bool, ◌||◌, List, ℕ, Float}
use Rattle.replay_matrices.specs.Matrices.{matrices_agree}
use Rattle.replay_move.specs.Move.{moves_agree}
use Rattle.replay_cases.specs.Case.{words_of, numbers_of, places_of}

-- a kind that is none of these agrees with nothing
unfoldable pub matrices_agree_all : ℕ → List Float → List ℕ → List ℕ → Bool
matrices_agree_all kind f u w = matrices_agree kind f u w || moves_agree kind f u w

unfoldable pub agrees : ℕ → List ℕ → Bool
agrees kind b =
    let w = words_of b in
    matrices_agree_all kind (numbers_of w) (places_of w) w
