-- The replay: what a case of each kind with a mesh compares: the mesh as six columns, further inputs and the results behind it. Definitions only.
use Rattle.std.specs.Prelude.{Bool, false, cond, ◌&&◌, List, ℕ, ◌+◌, eqb, length, get_or, Float}
use Rattle.refusal.specs.Checks.{after}
use Rattle.mesh.specs.Mesh.{Mesh, mesh_refusal, tested_count, max_nodes, max_panels}
use Rattle.tri.specs.Quadrature.{quadrature_rule}
use Rattle.boundary_element.specs.CurrentDensity as Density
use Rattle.boundary_element.specs.QuadraturePoints as Points
use Rattle.replay_words.specs.Words.{length_at, column_end, rule_of, part, same_word, same_count}
use Rattle.replay_words.specs.Buffers.{lent, held}
use Rattle.replay_columns.specs.Columns.{column_at, mesh_at}

unfoldable pub mesh_test_of : Mesh → List ℕ → ℕ → Bool
mesh_test_of m w g =
    let r = mesh_refusal max_nodes max_panels m in
    same_count r (tested_count m r) w g

unfoldable pub densities_into : Mesh → List Float → List Float → List Float → List Float → List ℕ → ℕ → Bool
densities_into m s jx jy jz w k =
    let r = Density.density_refusal m (length s) (length jx) (length jy) (length jz) in
    let p = k + 1 + length jx in
    let q = p + length jy in
    same_word r w k
    && held r (after r (Density.current_densities m s 0) jx) w (k + 1)
    && held r (after r (Density.current_densities m s 1) jy) w p
    && held r (after r (Density.current_densities m s 2) jz) w q

-- behind the mesh: nodal values and three lengths
unfoldable pub densities_of : Mesh → List Float → List ℕ → ℕ → Bool
densities_of m f w g =
    let h = column_end w g in
    densities_into m (part f (g + 1) h) (lent 64 (length_at w h)) (lent 64 (length_at w (h + 1))) (lent 64 (length_at w (h + 2))) w (h + 3)

unfoldable pub quadrature_into : ℕ → Mesh → List Float → List Float → List Float → List Float → List ℕ → ℕ → Bool
quadrature_into number m px py pz pw w k =
    let rule = quadrature_rule number in
    let r = Points.rule_refusal rule m (length px) (length py) (length pz) (length pw) in
    let p = k + 1 + length px in
    let q = p + length py in
    let n = q + length pz in
    same_word r w k
    && held r (after r (Points.points_due rule m 0) px) w (k + 1)
    && held r (after r (Points.points_due rule m 1) py) w p
    && held r (after r (Points.points_due rule m 2) pz) w q
    && held r (after r (Points.weights_due rule m) pw) w n

unfoldable pub quadrature_of : ℕ → Mesh → List ℕ → ℕ → Bool
quadrature_of rule m w g =
    quadrature_into rule m (lent 64 (length_at w g)) (lent 64 (length_at w (g + 1))) (lent 64 (length_at w (g + 2))) (lent 64 (length_at w (g + 3))) w (g + 4)

-- by the kind's number: the mesh, and the place behind it
unfoldable pub of_mesh : ℕ → Mesh → List Float → List ℕ → ℕ → Bool
of_mesh kind m f w g =
    cond (eqb kind 20) (mesh_test_of m w g)
    (cond (eqb kind 21) (quadrature_of (rule_of (get_or w 0 0)) m w g) (cond (eqb kind 22) (densities_of m f w g) false))

unfoldable pub with_mesh : ℕ → List Float → List ℕ → List ℕ → ℕ → Bool
with_mesh kind f u w k = of_mesh kind (mesh_at f u w k) f w (column_at w k 6)

-- the mesh is the first input, or stands behind a rule
unfoldable pub meshes_agree : ℕ → List Float → List ℕ → List ℕ → Bool
meshes_agree kind f u w = cond (eqb kind 21) (with_mesh kind f u w 1) (with_mesh kind f u w 0)
