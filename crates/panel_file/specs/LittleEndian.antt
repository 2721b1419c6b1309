-- Document 01's panel file: numbers of w bytes, the lowest byte first. Definitions only.
use Rattle.std.specs.Prelude.{List, [], ◌∷◌, ◌++◌, ℕ, zero, suc, ◌+◌, ◌*◌, ◌/◌, ◌%◌, get_or}

-- the number in the w bytes from index i on
unfoldable pub little_endian : ℕ → List ℕ → ℕ → ℕ
little_endian zero b i = 0
little_endian (suc w) b i = get_or b i 0 + 256 * little_endian w b (suc i)

-- the w bytes of n
unfoldable pub to_little_endian : ℕ → ℕ → List ℕ
to_little_endian zero n = []
to_little_endian (suc w) n = n % 256 ∷ to_little_endian w (n / 256)

-- three numbers of w bytes
unfoldable pub three_fields : ℕ → ℕ → ℕ → ℕ → List ℕ
three_fields w a b c = to_little_endian w a ++ (to_little_endian w b ++ to_little_endian w c)

-- row i, row (i + 1), …: c rows, one behind the other
unfoldable pub rows_from : (ℕ → List ℕ) → ℕ → ℕ → List ℕ
rows_from f i zero = []
rows_from f i (suc c) = f i ++ rows_from f (suc i) c
