-- A size of at most 10^15 fits a signed word, and so does its negative.
use Rattle.display.specs.Display.{with_sign}
use Rattle.display.proofs.Range.{signed_fits, in_word, negative-word}
use Rattle.display.proofs.with_sign.Goals as goal

pub overflow_sub-result : goal.overflow_sub-result
overflow_sub-result c = signed_fits c.args.size c.requires

pub returns-then-negative : goal.returns-then-negative
unfolding with_sign
returns-then-negative c = rw c.if-negative.true (negative-word c.args.size c.requires)

pub returns-else-negative : goal.returns-else-negative
unfolding with_sign
returns-else-negative c = rw c.if-negative.false (in_word c.args.size c.requires)
