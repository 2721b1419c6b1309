-- The sum of counts, one kind further.
use Rattle.std.proofs.Common.{◌≡◌, ℕ, ◌+◌, ◌%◌, ◌^◌, List, get_or, add-one}
use Rattle.replay_cases.specs.Tally.{total}

pub total_more : (l : List ℕ) (n : ℕ) → total l (n + 1) ≡ (total l n + get_or l n 0) % 2 ^ 64
unfolding total
total_more l n = rw add-one
