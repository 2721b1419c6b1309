-- The C interface, which the Rust has not: two triangles and a panel's record as single numbers. Definitions only.
use Rattle.std.specs.Prelude.{List, [], ◌∷◌, ◌++◌, get_or, Float}
use Rattle.potential.specs.declared.UniformTriangle.{UniformTriangle}
use Rattle.panel_points.specs.Points.{coordinates}

-- two triangles, one after the other
unfoldable pub halves_of : List (List (List Float)) → List Float
halves_of h = coordinates (get_or h 0 []) ++ coordinates (get_or h 1 [])

-- corners (nine numbers), normal (three), edge tangents and outward edges (nine each), edge lengths (three), longest edge
unfoldable pub record_numbers : UniformTriangle → List Float
record_numbers p = coordinates p.nodes ++ p.normal ++ coordinates p.edge_tangent ++ coordinates p.edge_outward ++ p.edge_length ++ (p.max_edge ∷ [])
