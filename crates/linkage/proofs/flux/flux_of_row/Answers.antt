-- Each turn adds the product at its place, and there are as many turns as coefficients.
use mathlib.Core.Path.{◌≡◌}
use native.Mathlib.Omega.{arith}
use borrow.Author.Rules.{rules}
use lib.ListN.{length, length-append}
use lib.Ieee.{nan}
use Rattle.std.proofs.lemmas.Slice.Zip.{zip_turn, zip_end}
use Rattle.lists.proofs.Sums.{sum_more}
use Rattle.linkage.proofs.flux.flux_of_row.Goals as goal

pub loop-entry-preserved : goal.loop-entry-preserved
loop-entry-preserved c =
    let l = c.loop-entry in
    let t = zip_turn c.args.row.now c.args.coefficients.now l.yielded c.into_iter-entry-iterator.result l.entry-iterator c.next.new.self c.next.result (search rules) (search rules) l.yielded_by (c.in-Some.entry, c.in-Some.coefficient) c.in-Some.is c.next.ensures.steps in
    simp length-append (rw (sum_more, t.2 nan, t.3 nan, ← l.invariant))

pub returns : goal.returns
returns c =
    let l = c.loop-entry in
    let t = zip_end c.args.row.now c.args.coefficients.now l.yielded c.into_iter-entry-iterator.result l.entry-iterator c.next.new.self c.next.result (search rules) (search rules) l.yielded_by c.in-None.is c.next.ensures.steps in
    let e : length l.yielded ≡ length c.args.coefficients.now = omega (arith, t, c.requires) in
    rw (← e) l.invariant
