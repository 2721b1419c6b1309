-- The replay: a lent buffer after a call: what is due, or on a refusal the pattern that it was lent with. Definitions only.
use Rattle.std.specs.Prelude.{Bool, true, cond, ◌&&◌, List, ℕ, zero, suc, ◌+◌, eqb, get_or, length, replicate, Float}
use Rattle.std.specs.Float.{nan}
use Rattle.binary64.specs.Binary64.{bits}
use Rattle.ieee754.specs.Ieee754.{canonical_bits}
use Rattle.replay_words.specs.Words.{part}

-- the bits of 77
abbrev pub pattern : ℕ
pattern = 0x4053_4000_0000_0000

-- n numbers of it, as a part of so many
abbrev pub lent : ℕ → ℕ → List Float
lent size n = part (replicate size (bits pattern)) 0 n

-- the same of places, lent as 77
abbrev pub lent_places : ℕ → ℕ → List ℕ
lent_places size n = part (replicate size 77) 0 n

-- each of the first n places passes a test
unfoldable pub all_below : (ℕ → Bool) → ℕ → Bool
all_below t zero = true
all_below t (suc n) = all_below t n && t n

-- of elements by their words; past its end a list has `beyond`
module _ {A : Type 0} (word : A → ℕ) (beyond : A) where
  -- the whole buffer is what the case has from place k on
  unfoldable pub stored_by : List A → List ℕ → ℕ → Bool
  stored_by v w k = all_below (λ i. eqb (word (get_or v i beyond)) (get_or w (k + i) 0)) (length v)

  -- it is all of one word
  unfoldable pub untouched_by : ℕ → List A → Bool
  untouched_by p v = all_below (λ i. eqb (word (get_or v i beyond)) p) (length v)

  -- what is due, or on a refusal the word p that it was lent with
  unfoldable pub held_by : ℕ → ℕ → List A → List ℕ → ℕ → Bool
  held_by p r v w k = cond (eqb r 0) (stored_by v w k) (untouched_by p v)

  -- two buffers of one length
  unfoldable pub same_by : List A → List A → Bool
  same_by v u = all_below (λ i. eqb (word (get_or v i beyond)) (word (get_or u i beyond))) (length v)

-- of numbers
abbrev pub held : ℕ → List Float → List ℕ → ℕ → Bool
held r v w k = held_by canonical_bits nan pattern r v w k

-- of places
abbrev pub held_places : ℕ → List ℕ → List ℕ → ℕ → Bool
held_places r v w k = held_by (λ n. n) 0 77 r v w k

-- a buffer that a call changes: the stored results, or on a refusal what it held before
unfoldable pub kept : ℕ → List Float → List Float → List ℕ → ℕ → Bool
kept r v before w k = cond (eqb r 0) (stored_by canonical_bits nan v w k) (same_by canonical_bits nan v before)
