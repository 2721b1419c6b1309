-- Lengths and inner products, by their contracts.
use Rattle.potential_lanes.proofs.denominators.Goals as goal

pub returns : goal.returns
returns c i m =
    rw (
      c.denominators_of.ensures i m,
      c.lengths.ensures i m,
      c.lengths-2.ensures i m,
      c.lengths-3.ensures i m,
      c.inner_products.ensures i m,
      c.inner_products-2.ensures i m,
      c.inner_products-3.ensures i m,
    )
