-- The replay: a case's kind from its head, and its words, numbers and places from its bytes. Definitions only.
use Rattle.std.specs.Prelude.{ℕ, ◌*◌, cond, Option, None, List, nat_lt, slice_index, Float}
use Rattle.std.specs.Option.{option_map}
use Rattle.binary64.specs.Binary64.{bits}
use Rattle.lists.specs.Filling.{tabulate}
use Rattle.panel_file.specs.LittleEndian.{little_endian}
use Rattle.replay_words.specs.Words.{size_of}

-- a case's kind by its head; none where it has a kind or a size that no buffer holds
unfoldable pub kind_of : List ℕ → Option ℕ
kind_of h =
    let kind = little_endian 4 h 0 in
    cond (nat_lt 127 kind) None (option_map (λ _. kind) (size_of (little_endian 4 h 4) (little_endian 8 h 8)))

abbrev pub word_at : List ℕ → ℕ → ℕ
word_at b k = little_endian 8 b (k * 8)

abbrev pub number_at : List ℕ → ℕ → Float
number_at w k = bits (slice_index w k)

abbrev pub place_at : List ℕ → ℕ → ℕ
place_at w k = slice_index w k

-- 2,048 of each
unfoldable pub words_of : List ℕ → List ℕ
words_of b = tabulate 2048 (word_at b)

unfoldable pub numbers_of : List ℕ → List Float
numbers_of w = tabulate 2048 (number_at w)

unfoldable pub places_of : List ℕ → List ℕ
places_of w = tabulate 2048 (place_at w)
