-- The replay: a stored case as 2,048 words, and how a result is held to it: bit by bit, every NaN as one number. Definitions only.
use Rattle.std.specs.Prelude.{Bool, cond, Option, None, Some, ◌&&◌, List, [], ◌∷◌, ℕ, ◌+◌, ◌-◌, ◌^◌, eqb, ltb, get_or, take, drop, Float}
use Rattle.binary64.specs.Binary64.{at}
use Rattle.ieee754.specs.Ieee754.{canonical_bits}

-- three numbers and nine from the k-th on
unfoldable pub vector_at : List Float → ℕ → List Float
vector_at f k = at f k ∷ at f (k + 1) ∷ at f (k + 2) ∷ []

unfoldable pub triangle_at : List Float → ℕ → List (List Float)
triangle_at f k = vector_at f k ∷ vector_at f (k + 3) ∷ vector_at f (k + 6) ∷ []

unfoldable pub coordinates_at : List Float → ℕ → List Float
coordinates_at f k = at f k ∷ at f (k + 1) ∷ at f (k + 2) ∷ at f (k + 3) ∷ at f (k + 4) ∷ at f (k + 5) ∷ at f (k + 6) ∷ at f (k + 7) ∷ at f (k + 8) ∷ []

-- ---- results
unfoldable pub same_word : ℕ → List ℕ → ℕ → Bool
same_word n w k = eqb n (get_or w k 0)

unfoldable pub same_number : Float → List ℕ → ℕ → Bool
same_number x w k = same_word (canonical_bits x) w k

unfoldable pub same_flag : Bool → List ℕ → ℕ → Bool
same_flag t w k = same_word (cond t 1 0) w k

unfoldable pub same_vector : List Float → List ℕ → ℕ → Bool
same_vector v w k = same_number (at v 0) w k && same_number (at v 1) w (k + 1) && same_number (at v 2) w (k + 2)

unfoldable pub same_triangle : List (List Float) → List ℕ → ℕ → Bool
same_triangle t w k = same_vector (get_or t 0 []) w k && same_vector (get_or t 1 []) w (k + 3) && same_vector (get_or t 2 []) w (k + 6)

-- nine numbers, row by row
unfoldable pub same_nine : List Float → List ℕ → ℕ → Bool
same_nine v w k =
    same_vector (at v 0 ∷ at v 1 ∷ at v 2 ∷ []) w k
    && same_vector (at v 3 ∷ at v 4 ∷ at v 5 ∷ []) w (k + 3)
    && same_vector (at v 6 ∷ at v 7 ∷ at v 8 ∷ []) w (k + 6)

-- a refusal and a value
unfoldable pub same_value : ℕ → Float → List ℕ → ℕ → Bool
same_value r v w k = same_word r w k && same_number v w (k + 1)

-- a rule's number; what does not fit 32 bits is no rule's either
unfoldable pub rule_of : ℕ → ℕ
rule_of n = cond (ltb n (2 ^ 32)) n 0

-- so many words of input and of results; none where they are more than a case may have
unfoldable pub size_of : ℕ → ℕ → Option ℕ
size_of inputs results = cond (ltb 2048 (inputs + results)) None (Some (inputs + results))

-- the numbers from place a up to place e
abbrev pub part : {A : Type 0} → List A → ℕ → ℕ → List A
part f a e = take (e - a) (drop a f)

-- a stored length, cut at the most that is replayed
unfoldable pub cut_at : List ℕ → ℕ → ℕ → ℕ
cut_at w k most = cond (ltb most (get_or w k 0)) most (get_or w k 0)

-- cut at 64, or at 2,048: a case that has more differs
abbrev pub length_at : List ℕ → ℕ → ℕ
length_at w k = cut_at w k 64

abbrev pub size_at : List ℕ → ℕ → ℕ
size_at w k = cut_at w k 2048

-- the place behind a mesh's column that begins with its length at place k
unfoldable pub column_end : List ℕ → ℕ → ℕ
column_end w k = k + 1 + cut_at w k 48

-- a refusal and a count
unfoldable pub same_count : ℕ → ℕ → List ℕ → ℕ → Bool
same_count r n w k = same_word r w k && same_word n w (k + 1)

-- a refusal, where a row begins and how long it is
unfoldable pub same_place : ℕ → ℕ → ℕ → List ℕ → ℕ → Bool
same_place r offset long w k = same_word r w k && same_word offset w (k + 1) && same_word long w (k + 2)
