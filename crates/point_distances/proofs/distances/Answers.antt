-- The differences are in place, then their lengths, which are the distances (`distance_is`).
use mathlib.Core.Path.{◌∙◌}
use Prim.Native.Nat.{◌*◌}
use native.Mathlib.Omega.{arith}
use Rattle.point_distances.specs.Distances.{difference, distance}
use Rattle.point_distances.proofs.Turns.{pairs_fit, front_at, front_same, distance_is}
use Rattle.point_distances.proofs.distances.Goals as goal

pub overflow_mul-n : goal.overflow_mul-n
overflow_mul-n c = omega (arith, pairs_fit c.args.n c.requires.fits.0)

pub lengths-requires : goal.lengths-requires
lengths-requires c = (pairs_fit c.args.n c.requires.fits.0, c.requires.fits.1)

pub returns : goal.returns
returns c =
    let a = c.args in
    let p = a.p.now in
    let q = a.q.now in
    let n = a.n in
    c.lengths.ensures
    ∙ front_same a.out.now (n * n) _ (distance p q n)
    (λ k m.
    distance_is _ p q n k
    (front_at _ _ (n * n) (difference p.x.now q.x.now n) k c.differences.ensures m)
    (front_at _ _ (n * n) (difference p.y.now q.y.now n) k c.differences-2.ensures m)
    (front_at _ _ (n * n) (difference p.z.now q.z.now n) k c.differences-3.ensures m))
