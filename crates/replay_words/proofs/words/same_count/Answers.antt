-- Two comparisons.
use Rattle.std.proofs.Common.{◌∙◌, sym}
use Rattle.replay_words.specs.Words.{same_count}
use Rattle.replay_words.proofs.Outcomes.{unwrapped}
use Rattle.replay_words.proofs.words.same_count.Goals as goal

pub returns : goal.returns
unfolding same_count
returns c =
    rw (← c.same_refusal-a.ensures, ← unwrapped _ c.args.outcome, ← c.unwrap_or.ensures, ← c.same_word-b.ensures)
