-- Eight reads.
use borrow.Author.Rules.{rules}
use Rattle.replay_columns.specs.Store.{name_at}
use Rattle.replay_columns.proofs.store.name_at.Goals as goal

pub returns : goal.returns
unfolding name_at
returns c = search rules
