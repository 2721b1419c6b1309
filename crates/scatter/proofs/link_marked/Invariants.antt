-- The scan from above: at k and above every link is right, and `first` is the link of k.
use mathlib.Core.Path.{◌≡◌}
use Prim.Native.Nat.{◌-◌}
use Rattle.scatter.specs.Renewal.{marked}
use Rattle.lists.specs.Counting.{next_from}
use Rattle.scatter.specs.Links.{LinksNext}
use Rattle.scatter.proofs.link_marked.Given as goal

abbrev pub invariant-loop-k : goal.invariant-loop-k
invariant-loop-k l = let n = l.set.count in (l.first ≡ next_from (marked l.set.marks.now) l.k (n - l.k)) × LinksNext l.k (marked l.set.marks.now) n l.links
