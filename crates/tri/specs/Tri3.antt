-- tri3.rs: the closest point of a triangle, by seven exits in the order of their tests. Definitions only.
use Rattle.std.specs.Prelude.{cond, ◌&&◌, Float}
use Rattle.std.specs.Float.Ieee.{le}
use Rattle.binary64.specs.Binary64.{◌⊕◌, ◌⊖◌, ◌⊗◌, ◌⊘◌, plus_zero, one}
use Rattle.ieee754.specs.Ieee754.{fma}
use Rattle.math.specs.Math.{Vec, sub3, dot3, add_scaled3}
use Rattle.tri.specs.Mapping.{Tri, corner}

-- the edge from corner 1 to corner 2, or inside; d43 is d4 − d3, d56 is d5 − d6
unfoldable pub exits_from_sixth : Tri → Vec → Vec → Float → Float → Float → Float → Float → Vec
exits_from_sixth t ab ac d43 d56 va vb vc =
    let bc = sub3 (corner t 2) (corner t 1) in
    let denomInv = one ⊘ (va ⊕ vb ⊕ vc) in
    let v = vb ⊗ denomInv in
    let w = vc ⊗ denomInv in
    cond (le va plus_zero && le plus_zero d43 && le plus_zero d56) (add_scaled3 (corner t 1) bc (d43 ⊘ (d43 ⊕ d56)))
    (add_scaled3 (add_scaled3 (corner t 0) ab v) ac w)

-- corner 2, or the edge from corner 0 to corner 2
unfoldable pub exits_from_fourth : Vec → Tri → Vec → Vec → Float → Float → Float → Float → Float → Vec
exits_from_fourth obs t ab ac d1 d2 d3 d4 vc =
    let cp = sub3 obs (corner t 2) in
    let d5 = dot3 ab cp in
    let d6 = dot3 ac cp in
    let vb = fma d5 d2 ((plus_zero ⊖ d1) ⊗ d6) in
    let va = fma d3 d6 ((plus_zero ⊖ d5) ⊗ d4) in
    cond (le plus_zero d6 && le d5 d6) (corner t 2)
    (cond (le vb plus_zero && le plus_zero d2 && le d6 plus_zero) (add_scaled3 (corner t 0) ac (d2 ⊘ (d2 ⊖ d6)))
    (exits_from_sixth t ab ac (d4 ⊖ d3) (d5 ⊖ d6) va vb vc))

-- corner 1, or the edge from corner 0 to corner 1
unfoldable pub exits_from_second : Vec → Tri → Vec → Vec → Float → Float → Vec
exits_from_second obs t ab ac d1 d2 =
    let bp = sub3 obs (corner t 1) in
    let d3 = dot3 ab bp in
    let d4 = dot3 ac bp in
    let vc = fma d1 d4 ((plus_zero ⊖ d3) ⊗ d2) in
    cond (le plus_zero d3 && le d4 d3) (corner t 1)
    (cond (le vc plus_zero && le plus_zero d1 && le d3 plus_zero) (add_scaled3 (corner t 0) ab (d1 ⊘ (d1 ⊖ d3)))
    (exits_from_fourth obs t ab ac d1 d2 d3 d4 vc))

unfoldable pub closest_point : Vec → Tri → Vec
closest_point obs t =
    let ab = sub3 (corner t 1) (corner t 0) in
    let ac = sub3 (corner t 2) (corner t 0) in
    let ap = sub3 obs (corner t 0) in
    let d1 = dot3 ab ap in
    let d2 = dot3 ac ap in
    cond (le d1 plus_zero && le d2 plus_zero) (corner t 0)
    (exits_from_second obs t ab ac d1 d2)
