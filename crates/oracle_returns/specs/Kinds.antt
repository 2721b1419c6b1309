-- The replay: whether a case's results are ours: what its kind compares, of its bytes. Definitions only.
use Rattle.std.specs.Prelude.{Bool, List, ℕ}
use Rattle.replay_return.specs.Return.{returns_agree}
use Rattle.replay_cases.specs.Case.{words_of, numbers_of, places_of}

-- a kind other than the return agrees with nothing
unfoldable pub agrees : ℕ → List ℕ → Bool
agrees kind b =
    let w = words_of b in
    returns_agree kind b (numbers_of w) (places_of w) w
