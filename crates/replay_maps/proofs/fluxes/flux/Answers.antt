-- The columns are parts of the case's numbers, and the buffer a part of the pattern.
use Rattle.replay_words.proofs.Lent.{one-within}
use borrow.Author.Rules.{rules}
use Rattle.replay_maps.proofs.fluxes.flux.Goals as goal

pub flux_into-requires : goal.flux_into-requires
flux_into-requires c = search (rules, one-within)

pub returns : goal.returns
returns c =
    rw (← c.cut_at-n.ensures.0, ← c.cut_at-m.ensures.0, ← c.cut_at-p.ensures.0) c.flux_into.ensures
