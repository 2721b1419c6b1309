-- The fields, put one behind the other.
use borrow.Author.Rules.{rules}
use mathlib.Core.Path.{refl, ◌∙◌}
use mathlib.Core.List.{[], ◌∷◌}
use native.Mathlib.Omega.{arith}
use Rattle.lists.proofs.Putting.{put_pastes}
use Rattle.lent_numbers.specs.Numbers.{record_numbers}
use Rattle.lent_numbers.proofs.Parts.{none, next, all}
use Rattle.lent_numbers.proofs.record_numbers.Goals as goal

pub returns : goal.returns
unfolding record_numbers
returns c =
    let r = c.args.p in
    let b1 = next 0 9 c.coordinates.result (put_pastes c.put.ensures) (none 34 _ refl) (search rules) (omega arith) in
    let b2 = next 9 3 r.normal (put_pastes c.put-2.ensures) b1 (search rules) (omega arith) in
    let b3 = next 12 9 c.coordinates-2.result (put_pastes c.put-3.ensures) b2 (search rules) (omega arith) in
    let b4 = next 21 9 c.coordinates-3.result (put_pastes c.put-4.ensures) b3 (search rules) (omega arith) in
    let b5 = next 30 3 r.edge_length (put_pastes c.put-5.ensures) b4 (search rules) (omega arith) in
    all (next 33 1 (r.max_edge ∷ []) (put_pastes c.put-6.ensures) b5 refl (omega arith))
    ∙ rw (c.coordinates.ensures, c.coordinates-2.ensures, c.coordinates-3.ensures)
