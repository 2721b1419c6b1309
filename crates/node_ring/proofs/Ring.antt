-- What follows from marks that are the ring of changed nodes, for a move and a return alike: cells and count are those that the ring names, and a node outside it is apart from the changed ones.
use mathlib.Core.Path.{◌≡◌, refl, sym, ap, ◌∙◌}
use mathlib.Core.Bool.{Bool, true, false, ◌||◌}
use mathlib.Core.List.{List}
use Prim.Native.Nat.{ℕ, ◌*◌, ◌-◌, ◌<◌}
use borrow.Author.Tests.{eqb-true, eqb-false, eq-eqb, ne_eqb}
use lib.Dec.{eqb}
use lib.ListN.{replicate, length-replicate, set}
use Rattle.scatter.specs.Entries.{same}
use lib.Ieee.{Float}
use Rattle.lists.specs.Counting.{any_of, count_below}
use Rattle.lists.proofs.Counting.{none_at, some_alike, count_alike}
use Rattle.mesh.specs.Mesh.{Mesh, ntri}
use Rattle.scatter.specs.Renewal.{marked, renewed}
use Rattle.scatter.specs.Flags.{IndicesBelow}
use Rattle.scatter.specs.Change.{Apart}
use Rattle.scatter.proofs.Renewals.{renewed-same}
use Rattle.node_ring.specs.Ring.{joins, ring, named_count}
use Rattle.node_ring.proofs.Marks.{one-mark, none-marked}
use Rattle.node_ring.proofs.Count.{named_count_lem}

pub outside : (m : Mesh) (changed : ℕ → Bool) (a : ℕ) → ring m changed a ≡ false → Apart m changed a
outside m changed a h p l t = let g = none_at (joins m changed a) (ntri m) p h l in rw t at g

-- the ring asks of the corners of panels alone whether they are changed
pub ring_alike : (m : Mesh) (n : ℕ) (s t : ℕ → Bool) → IndicesBelow n m → ((a : ℕ) → a < n → s a ≡ t a) → (a : ℕ) → ring m s a ≡ ring m t a
unfolding any_of
ring_alike m n s t b e a = some_alike (joins m s a) (joins m t a) (ntri m) (λ p l. let w = b p l in rw (e _ w.0, e _ w.1.0, e _ w.1.1.0))

-- marks that were none and now are the ring r
module _ (r : ℕ → Bool) (marks : List Bool) (k : ℕ) (e : (a : ℕ) → marked marks a ≡ (marked (replicate k false) a || r a)) where
  marks-ring : (a : ℕ) → marked marks a ≡ r a
  marks-ring a = e a ∙ ap (λ (u : Bool). u || r a) (none-marked k a)

  pub ring-cells : (g : ℕ → ℕ → Float) (n : ℕ) (old new : List Float) → new ≡ renewed (marked marks) g n old → new ≡ renewed r g n old
  ring-cells g n old new w = w ∙ renewed-same (marked marks) r g n old (λ a l. marks-ring a)

  pub ring-total : (n t c : ℕ) → t ≡ count_below (marked marks) n → c ≡ 2 * n * t - t * t → c ≡ named_count r n
  ring-total n t c s w =
      w ∙ ap (λ (j : ℕ). 2 * n * j - j * j) (s ∙ count_alike (marked marks) r n (λ a l. marks-ring a)) ∙ sym (named_count_lem r n)

-- of k nodes one is changed
pub one_changed : (k v a : ℕ) → v < k → marked (set (replicate k false) v true) a ≡ same v a
one_changed k v a l = one-mark (replicate k false) v a (rw length-replicate l) ∙ ap (λ (t : Bool). t || eqb v a) (none-marked k a) ∙ turned (eqb a v) refl
  where
    turned : (t : Bool) → eqb a v ≡ t → eqb v a ≡ t
    turned true e = eq-eqb v a (sym (eqb-true a v e))
    turned false e = ne_eqb v a (λ z. eqb-false a v e (sym z))
