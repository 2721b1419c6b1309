-- Each element is what the closure gives of its index.
use Rattle.std.proofs.Common.{rules}
use Rattle.replay_cases.specs.Case.{places_of, place_at}
use Rattle.replay_cases.proofs.Made.{tabulate-made}
use Rattle.replay_cases.proofs.case.places.Goals as goal

pub returns : goal.returns
unfolding places_of
returns c = tabulate-made _ (place_at c.args.w.now) 0 (λ i y q k. (search rules, search rules)) c.from_fn.ensures.items
