-- The row is a stretch of the map that is as long as the coefficients.
use Rattle.lists.proofs.Stretches.{stretch-long}
use Rattle.linkage.proofs.flux.row_flux.Goals as goal

pub flux_of_row-requires : goal.flux_of_row-requires
flux_of_row-requires c = rw c.stretch-row.ensures (stretch-long _ _ _ c.requires)

pub returns : goal.returns
returns c = rw (← c.stretch-row.ensures) c.flux_of_row.ensures
