-- By recursion on the depth: a leaf is the directed integral, and the definition's two halves are what the two calls gave.
use Rattle.coupling.proofs.Halving.{fixed_leaf, fixed_halves}
use Rattle.coupling.proofs.coupling.+triangle_geometric_coupling_exact_fixed.Goals as goal

pub returns-then-depth-eq0 : goal.returns-then-depth-eq0
returns-then-depth-eq0 t c = rw (c.triangle_geometric_coupling_exact_directed.ensures, fixed_leaf _ _ _ c.if-depth-eq0.true)

pub returns : goal.returns
returns t c =
    rw (
      fixed_halves _ _ _ c.if-depth-eq0.false,
      ← c.longest_edge_bisection-children.ensures,
      c.triangle_geometric_coupling_exact_fixed-2.ensures,
      c.triangle_geometric_coupling_exact_fixed.ensures,
    )
