-- Each element is what the closure gives of its index.
use Rattle.std.proofs.Common.{rules}
use Rattle.std.specs.Float.{nan}
use Rattle.replay_cases.specs.Case.{numbers_of, number_at}
use Rattle.replay_cases.proofs.Made.{tabulate-made}
use Rattle.replay_cases.proofs.case.numbers.Goals as goal

pub returns : goal.returns
unfolding numbers_of
returns c = tabulate-made _ (number_at c.args.w.now) nan (λ i y q k. (search rules, search rules)) c.from_fn.ensures.items
