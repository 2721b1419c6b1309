-- The word's upper part and its lower part, by `word_law`.
use Rattle.fused_guided.proofs.Laws.Wide.{word_law}
use Rattle.fused_guided.proofs.shift_word.Goals as goal

pub returns : goal.returns
returns c = word_law c.args.w c.args.s c.requires
