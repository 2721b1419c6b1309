-- After k turns the first k squares are in place, each the square of its vector's length or NaN.
use mathlib.Core.Path.{refl, sym, subst}
use Prim.Native.Nat.{ℕ}
use native.Mathlib.Nat.{not-suc-le-zero}
use native.Mathlib.Omega.{arith}
use Rattle.lists.proofs.Indices.{one_more}
use Rattle.lists.proofs.Runs.{begun, front_further, all_run}
use Rattle.length_lanes.specs.Length.{SquareOf, square_at}
use Rattle.point_distances.specs.Distances.{vector}
use Rattle.point_distances.proofs.Turns.{front_at}
use Rattle.point_distances.proofs.square_lanes.Goals as goal

pub loop-k-init : goal.loop-k-init
loop-k-init c = (begun (omega arith), λ j h. absurd (not-suc-le-zero h))

pub loop-k-preserved : goal.loop-k-preserved
loop-k-preserved c =
    let a = c.args in
    let l = c.loop-k in
    let s = c.square_lane in (
      front_further l.invariant.0 (omega arith) refl s.ensures.value,
      one_more (λ (j : ℕ). SquareOf (vector a.v.now j) (square_at a.v.now.x a.v.now.y a.v.now.z j)) l.k l.invariant.1
          (subst (SquareOf (vector a.v.now l.k)) s.ensures.value s.ensures.square_of),
    )

pub returns : goal.returns
returns c =
    let a = c.args in
    let l = c.loop-k in
    let all = all_run l.invariant.0 (omega arith) in record { out_value = all; by_index = λ k h. subst (SquareOf (vector a.v.now k)) (sym (front_at a.out.now _ a.count _ k all h)) (l.invariant.1 k (omega arith)) }
