-- An accepted input has few nodes and panels, and a value for each node.
use native.Mathlib.Omega.{arith}
use mathlib.Core.Path.{◌∙◌}
use Rattle.density_text.proofs.Inputs.{few_nodes, few_panels, values-there, value_at}
use Rattle.density_text.proofs.nodal_value.Goals as goal

pub nodal_value-requires : goal.nodal_value-requires
nodal_value-requires c =
    let i = c.requires.0 in
    (omega (arith, few_nodes _ _ _ i), omega (arith, few_panels _ _ _ i), c.requires.1, values-there _ _ _ i)

pub returns : goal.returns
returns c = c.nodal_value.ensures ∙ value_at _ _ _ c.requires.0 _ c.requires.1
