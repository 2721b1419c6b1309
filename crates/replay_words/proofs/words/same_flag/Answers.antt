-- The flag as a word.
use mathlib.Core.Path.{◌≡◌, refl}
use mathlib.Core.Bool.{Bool, true, false, cond}
use mir.Val.{bool_byte}
use Rattle.replay_words.specs.Words.{same_flag}
use Rattle.replay_words.proofs.words.same_flag.Goals as goal

byte : (t : Bool) → bool_byte t ≡ cond t 1 0
byte true = refl
byte false = refl

pub returns : goal.returns
unfolding same_flag
returns c = rw (← byte c.args.t) c.same_word.ensures
