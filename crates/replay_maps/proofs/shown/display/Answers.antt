-- The call's number and its value are the ones due.
use Rattle.replay_words.proofs.Outcomes.{unwrapped}
use Rattle.replay_maps.proofs.shown.display.Goals as goal

pub returns : goal.returns
returns c =
    let e = c.display-outcome.ensures in
    rw (← e.number, ← e.figure, ← unwrapped _ c.display-outcome.result, ← c.unwrap_or.ensures, ← c.same_refusal-a.ensures, ← c.signed.ensures)
