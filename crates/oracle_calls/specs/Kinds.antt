-- The replay: whether a case's results are ours: what its kind compares, of its bytes. Definitions only.
use Rattle.std.specs.Prelude.{Bool, ◌||◌, List, ℕ, Float}
use Rattle.replay_calls.specs.Kinds.{numbers_agree, vectors_agree, panels_agree, pairs_agree, calls_agree}
use Rattle.replay_cases.specs.Case.{words_of, numbers_of}

-- a kind that is none of these agrees with nothing
unfoldable pub calls_agree_all : ℕ → List Float → List ℕ → Bool
calls_agree_all kind f w = numbers_agree kind f w || vectors_agree kind f w || panels_agree kind f w || pairs_agree kind f w || calls_agree kind f w

unfoldable pub agrees : ℕ → List ℕ → Bool
agrees kind b =
    let w = words_of b in
    calls_agree_all kind (numbers_of w) w
