-- The nine numbers of each half, put one behind the other.
use borrow.Author.Rules.{rules}
use mathlib.Core.Path.{refl, ◌∙◌}
use native.Mathlib.Omega.{arith}
use Rattle.lists.proofs.Putting.{put_pastes}
use Rattle.lent_numbers.specs.Numbers.{halves_of}
use Rattle.lent_numbers.proofs.Parts.{none, next, all}
use Rattle.lent_numbers.proofs.eighteen.Goals as goal

pub returns : goal.returns
unfolding halves_of
returns c =
    let first = next 0 9 c.coordinates.result (put_pastes c.put.ensures) (none 18 _ refl) (search rules) (omega arith) in
    all (next 9 9 c.coordinates-2.result (put_pastes c.put-2.ensures) first (search rules) (omega arith)) ∙ rw (c.coordinates.ensures, c.coordinates-2.ensures)
