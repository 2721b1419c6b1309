-- What an accepted input says of panel i is what each reader requires; the values read are the nodal values at its corners.
use mathlib.Core.Path.{ap, ◌∙◌}
use mathlib.Core.List.{List, [], ◌∷◌}
use Prim.Native.Nat.{ℕ}
use lib.ListN.{get_or}
use Rattle.binary64.specs.Binary64.{at}
use Rattle.boundary_element.specs.CurrentDensity.{triangle_current_density, triangle_scalars}
use Rattle.density_text.specs.Text.{nodal_values}
use Rattle.density_text.proofs.Inputs.{indices_below, corners-below}
use Rattle.density_text.proofs.density.Goals as goal

pub nodal_value-requires : goal.nodal_value-requires
nodal_value-requires c = (c.requires.0, (corners-below _ _ _ c.requires.0 c.args.i c.requires.1 _ c.triangle_indices.ensures).0)

pub nodal_value-requires-2 : goal.nodal_value-requires-2
nodal_value-requires-2 c = (c.requires.0, (corners-below _ _ _ c.requires.0 c.args.i c.requires.1 _ c.triangle_indices.ensures).1)

pub nodal_value-requires-3 : goal.nodal_value-requires-3
nodal_value-requires-3 c = (c.requires.0, (corners-below _ _ _ c.requires.0 c.args.i c.requires.1 _ c.triangle_indices.ensures).2)

pub triangle_nodes-requires : goal.triangle_nodes-requires
triangle_nodes-requires c = (c.requires.1, indices_below _ _ _ c.requires.0 c.args.i c.requires.1)

pub returns : goal.returns
unfolding triangle_scalars
returns c =
    let v = nodal_values c.args.input.now.bytes.now in
    let e = c.triangle_indices.ensures in
    let v0 = c.nodal_value.ensures ∙ ap (λ (x : List ℕ). at v (get_or x 0 0)) e in
    let v1 = c.nodal_value-2.ensures ∙ ap (λ (x : List ℕ). at v (get_or x 1 0)) e in
    let v2 = c.nodal_value-3.ensures ∙ ap (λ (x : List ℕ). at v (get_or x 2 0)) e in
    c.triangle_current_density.ensures ∙ (λ j. triangle_current_density (c.triangle_nodes.ensures j) (v0 j ∷ v1 j ∷ v2 j ∷ []))
