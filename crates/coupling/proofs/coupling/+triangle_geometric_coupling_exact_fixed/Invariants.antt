-- The depth falls at each call.
use Rattle.coupling.proofs.coupling.+triangle_geometric_coupling_exact_fixed.Given as goal

abbrev pub decreases-triangle_geometric_coupling_exact_fixed : goal.decreases-triangle_geometric_coupling_exact_fixed
decreases-triangle_geometric_coupling_exact_fixed l = l.depth
