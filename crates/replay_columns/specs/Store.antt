-- The replay: CR 5's store in a stored case: marks, names and three columns one behind the other, each as its length and its elements, and behind them a name of one word. Definitions only.
use Rattle.std.specs.Prelude.{cond, List, [], ◌∷◌, ℕ, zero, suc, ◌+◌, ◌*◌, ltb, get_or, Float}
use Rattle.replay_words.specs.Words.{cut_at, part}
use Rattle.replay_words.specs.Bytes.{bytes_end}

-- a part has at most 80 elements: those whose length stands at place k, so many to a word
unfoldable pub part_from : {A : Type 0} → ℕ → List A → List ℕ → ℕ → List A
part_from per_word l w k =
    let from = per_word * (k + 1) in
    part l from (from + cut_at w k 80)

-- of bytes and of numbers
abbrev pub bytes_at : List ℕ → List ℕ → ℕ → List ℕ
bytes_at b w k = part_from 8 b w k

abbrev pub numbers_at : List Float → List ℕ → ℕ → List Float
numbers_at f w k = part_from 1 f w k

-- the place behind part i, whose length stands at place k: parts 0 and 1 are bytes, eight to a word, the others numbers
unfoldable pub part_end : List ℕ → ℕ → ℕ → ℕ
part_end w k i = cond (ltb i 2) (k + bytes_end (cut_at w k 80)) (k + 1 + cut_at w k 80)

-- the place of the length of part i, in a store that begins at place q; that of part 5 is the place of the name
unfoldable pub part_at : List ℕ → ℕ → ℕ → ℕ
part_at w q zero = q
part_at w q (suc i) = part_end w (part_at w q i) i

-- the eight bytes of the word at place k
unfoldable pub name_at : List ℕ → ℕ → List ℕ
name_at b k =
    let j = 8 * k in
    get_or b j 0 ∷ get_or b (j + 1) 0 ∷ get_or b (j + 2) 0 ∷ get_or b (j + 3) 0 ∷ get_or b (j + 4) 0 ∷ get_or b (j + 5) 0 ∷ get_or b (j + 6) 0 ∷ get_or b (j + 7) 0 ∷ []
