-- One point is the definition's sum of one; of more the rows of the distances are those of the points, so the sums over them are the definition's (`far_rows`).
use mathlib.Core.Path.{sym, ap, ◌∙◌}
use Prim.Native.Nat.{ℕ}
use Rattle.point_distances.proofs.Turns.{pairs_fit, pair_at}
use Rattle.pair_far_rule.specs.Far as Spec
use Rattle.pair_far_rule.proofs.Rows.{far_rows}
use Rattle.pair_far_rule.proofs.far_coupling.Goals as goal

pub returns-then-count-eq1 : goal.returns-then-count-eq1
returns-then-count-eq1 c =
    let a = c.args in
    c.far_one.ensures ∙ ap (λ (n : ℕ). Spec.far_shared n a.s.now a.t.now) (sym c.if-count-eq1.true)

pub distances-requires-clause-fits : goal.distances-requires-clause-fits
distances-requires-clause-fits c = (c.requires, pairs_fit c.args.count c.requires)

pub returns : goal.returns
unfolding Spec.distances
returns c =
    let a = c.args in
    c.far_sums.ensures
    ∙ far_rows a.count a.s.now a.t.now _ (λ i j h m. pair_at _ _ _ _ a.count i j c.distances.ensures h m)
