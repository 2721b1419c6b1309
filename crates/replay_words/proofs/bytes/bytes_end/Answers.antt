-- The code is the definition; 519 / 8 is 64.
use mathlib.Core.Path.{refl}
use native.Mathlib.Omega.{arith}
use Rattle.replay_words.specs.Bytes.{bytes_end}
use Rattle.replay_words.proofs.bytes.bytes_end.Goals as goal

pub returns : goal.returns
unfolding bytes_end
returns c = (refl, omega arith)
