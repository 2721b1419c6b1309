-- The library's count of the marks that are set, of the first n.
use mathlib.Core.Path.{◌≡◌, ◌∙◌}
use borrow.Author.Rules.{rules}
use Rattle.std.proofs.Common.{count_by, take}
use Rattle.std.proofs.iter.runs.Made.{chains}
use Rattle.node_ring.proofs.Count.{marks_counted}
use Rattle.node_ring.proofs.count_marks.Goals as goal

pub returns : goal.returns
returns c =
    let e : c.count.result ≡ count_by (λ m. m) (take c.args.n c.args.marks.now) = search (rules, chains) in
    e ∙ marks_counted c.args.marks.now c.args.n c.requires
