-- Each element is what the closure gives of its index.
use Rattle.std.proofs.Common.{rules}
use Rattle.replay_cases.specs.Case.{words_of, word_at}
use Rattle.replay_cases.proofs.Made.{tabulate-made}
use Rattle.replay_cases.proofs.case.words.Goals as goal

pub returns : goal.returns
unfolding words_of
returns c = tabulate-made _ (word_at c.args.b.now) 0 (λ i y q k. (search rules, search rules)) c.from_fn.ensures.items
