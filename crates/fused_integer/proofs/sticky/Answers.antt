-- The last bit set is the number made odd: `or-one`.
use Rattle.fused_integer.proofs.Laws.Words.{or-one}
use Rattle.fused_integer.proofs.sticky.Goals as goal

pub returns-then-rest-ne0 : goal.returns-then-rest-ne0
returns-then-rest-ne0 c = (λ z. absurd (c.if-rest-ne0.true z), λ _. or-one c.args.x)
