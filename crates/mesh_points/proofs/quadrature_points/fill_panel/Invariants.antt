-- After k turns the first k points from index start are written; each of the four columns by the same laws of a column that is run to k.
use Rattle.binary64.specs.Binary64.{at}
use Rattle.tri.specs.Quadrature.{quadrature_count}
use Rattle.lists.proofs.Runs.{RunTo}
use Rattle.mesh_points.specs.QuadraturePoints.{quadrature_point, quadrature_weight}
use Rattle.mesh_points.proofs.quadrature_points.fill_panel.Given as goal

abbrev pub invariant-loop-k : goal.invariant-loop-k
invariant-loop-k l = RunTo l.initial.px l.start (quadrature_count l.kind) (λ j. at (quadrature_point l.kind l.t j) 0) l.k l.px
    × RunTo l.initial.py l.start (quadrature_count l.kind) (λ j. at (quadrature_point l.kind l.t j) 1) l.k l.py
    × RunTo l.initial.pz l.start (quadrature_count l.kind) (λ j. at (quadrature_point l.kind l.t j) 2) l.k l.pz
    × RunTo l.initial.pw l.start (quadrature_count l.kind) (quadrature_weight l.kind l.t) l.k l.pw
