-- With d panels at the moved node its ring has at most 2d + 1 nodes, and at most 2n(2d + 1) cells are named: each panel holds the node itself, so that it adds two nodes at most.
use mathlib.Core.Path.{◌≡◌, refl, sym, ap, ◌∙◌}
use mathlib.Core.Bool.{Bool, true, false, ◌||◌, cond, or-false, or_assoc, false≢true}
use mathlib.Core.List.{List, [], ◌∷◌}
use Prim.Native.Nat.{ℕ, zero, suc, ◌+◌, ◌*◌, ◌≤◌}
use native.Mathlib.Omega.{arith}
use native.Mathlib.Nat.{mul-le-mul_left}
use lib.Dec.{eqb}
use lib.ListN.{length}
use borrow.Author.Tests.{eqb-true}
use Rattle.lists.specs.Counting.{any_of, some_below, count_below}
use Rattle.lists.proofs.Counting.{count_alike}
use Rattle.mesh.specs.Mesh.{Mesh, nnode, ntri, triangle_indices}
use Rattle.scatter.specs.Entries.{same}
use Rattle.node_ring.specs.Ring.{joins, ring, named_count}
use Rattle.node_ring.proofs.Count.{named_count_lem}

-- the number of panels at v
abbrev pub panels_at : Mesh → ℕ → ℕ
panels_at m v = count_below (λ p. any_of (same v) (triangle_indices m p)) (ntri m)

-- ---- counts of two tests joined
count-or : (g h : ℕ → Bool) (n : ℕ) → count_below (λ a. g a || h a) n ≤ count_below g n + count_below h n
unfolding count_below
count-or g h zero = omega arith
count-or g h (suc n) = omega (arith, count-or g h n, go (g n) (h n))
  where
    go : (s t : Bool) → cond (s || t) 1 0 ≤ cond s 1 0 + cond t 1 0
    go true t = omega arith
    go false t = omega arith

count_more : (g h : ℕ → Bool) (n : ℕ) → count_below h n ≤ count_below (λ a. g a || h a) n
unfolding count_below
count_more g h zero = omega arith
count_more g h (suc n) = omega (arith, count_more g h n, go (g n) (h n))
  where
    go : (s t : Bool) → cond t 1 0 ≤ cond (s || t) 1 0
    go true true = omega arith
    go true false = omega arith
    go false t = omega arith

-- ---- a node is counted once, and not below itself
count-node : (x n : ℕ) → (count_below (λ a. eqb x a) n ≤ 1) × (n ≤ x → count_below (λ a. eqb x a) n ≤ 0)
unfolding count_below
count-node x zero = (omega arith, λ h. omega arith)
count-node x (suc n) = go (eqb x n) refl (count-node x n)
  where
    go : (t : Bool)
        → eqb x n ≡ t
        → (count_below (λ a. eqb x a) n ≤ 1) × (n ≤ x → count_below (λ a. eqb x a) n ≤ 0)
        → (count_below (λ a. eqb x a) n + cond (eqb x n) 1 0 ≤ 1) × (suc n ≤ x → count_below (λ a. eqb x a) n + cond (eqb x n) 1 0 ≤ 0)
    go true h ih =
        let e = eqb-true x n h in
        let z = ih.1 (omega arith) in
        rw h (omega arith, λ l. omega arith)
    go false h ih = rw h (omega (arith, ih.0), λ l. omega (arith, ih.1 (omega arith)))

one_more : (x n : ℕ) (g : ℕ → Bool) → count_below (λ a. g a || eqb x a) n ≤ count_below g n + 1
one_more x n g = omega (arith, count-or g (λ a. eqb x a) n, (count-node x n).0)

-- ---- the nodes of a list
list_more : (s : List ℕ) (g : ℕ → Bool) (n : ℕ) → count_below (λ a. g a || any_of (same a) s) n ≤ count_below g n + length s
unfolding any_of
list_more [] g n = omega (arith, count_alike (λ a. g a || false) g n (λ a l. or-false (g a)))
list_more (x ∷ s) g n =
    omega (arith, count_alike (λ a. g a || (eqb x a || any_of (same a) s)) (λ a. g a || eqb x a || any_of (same a) s) n (λ a l. sym (or_assoc (g a) (eqb x a) (any_of (same a) s))), list_more s (λ a. g a || eqb x a) n, one_more x n g)

-- a list that holds v adds one node less to a set that holds v
list_known : (s : List ℕ) (v : ℕ) (g : ℕ → Bool) (n : ℕ)
    → ((a : ℕ) → eqb v a ≡ true → g a ≡ true)
    → any_of (same v) s ≡ true
    → count_below (λ a. g a || any_of (same a) s) n + 1 ≤ count_below g n + length s
unfolding any_of
list_known [] v g n k e = absurd (false≢true e)
list_known (x ∷ s) v g n k e = go (eqb x v) refl (list_known s v (λ a. g a || eqb x a) n (λ a q. ap (λ (t : Bool). t || eqb x a) (k a q)))
  where
    drop : (p t u : Bool) → (t ≡ true → p ≡ true) → (p || (t || u)) ≡ (p || u)
    drop true t u f = refl
    drop false true u f = absurd (false≢true (f refl))
    drop false false u f = refl

    go : (t : Bool)
        → eqb x v ≡ t
        → (any_of (same v) s ≡ true → count_below (λ a. g a || eqb x a || any_of (same a) s) n + 1 ≤ count_below (λ a. g a || eqb x a) n + length s)
        → count_below (λ a. g a || (eqb x a || any_of (same a) s)) n + 1 ≤ count_below g n + suc (length s)
    go true h ih =
        let is-v = eqb-true x v h in
        omega (arith, count_alike (λ a. g a || (eqb x a || any_of (same a) s)) (λ a. g a || any_of (same a) s) n (λ a l. drop (g a) (eqb x a) (any_of (same a) s) (λ q. k a (ap (λ (j : ℕ). eqb j a) (sym is-v) ∙ q))), list_more s g n)
    go false h ih =
        let rest : any_of (same v) s ≡ true = rw h at e in
        omega (arith, count_alike (λ a. g a || (eqb x a || any_of (same a) s)) (λ a. g a || eqb x a || any_of (same a) s) n (λ a l. sym (or_assoc (g a) (eqb x a) (any_of (same a) s))), ih rest, one_more x n g)

-- ---- the ring
module _ (m : Mesh) (v n : ℕ) where
  ring_bound : (c : ℕ) → count_below (λ a. eqb v a || some_below (joins m (same v) a) c) n ≤ 1 + 2 * count_below (λ p. any_of (same v) (triangle_indices m p)) c
  unfolding some_below count_below
  ring_bound zero = omega (arith, count_alike (λ a. eqb v a || false) (λ a. eqb v a) n (λ a l. or-false (eqb v a)), (count-node v n).0)
  ring_bound (suc c) = go (any_of (same v) (triangle_indices m c)) refl (ring_bound c)
    where
      S : ℕ → Bool
      S a = some_below (joins m (same v) a) c

      k : ℕ
      k = count_below (λ p. any_of (same v) (triangle_indices m p)) c

      go : (t : Bool)
          → any_of (same v) (triangle_indices m c) ≡ t
          → count_below (λ a. eqb v a || S a) n ≤ 1 + 2 * k
          → count_below (λ a. eqb v a || (S a || joins m (same v) a c)) n ≤ 1 + 2 * (k + cond (any_of (same v) (triangle_indices m c)) 1 0)
      go true h ih =
          let one : ◌≡◌ {A = ℕ} (cond (any_of (same v) (triangle_indices m c)) 1 0) 1 = ap {B = ℕ} (λ (t : Bool). cond t 1 0) h in
          let same_set = count_alike (λ a. eqb v a || (S a || joins m (same v) a c)) (λ a. eqb v a || S a || any_of (same a) (triangle_indices m c)) n (λ a l. rw h (sym (or_assoc (eqb v a) (S a) (any_of (same a) (triangle_indices m c))))) in
          omega (arith, one, same_set, ih, list_known (triangle_indices m c) v (λ a. eqb v a || S a) n (λ a q. ap (λ (t : Bool). t || S a) q) h)
      go false h ih =
          let none : ◌≡◌ {A = ℕ} (cond (any_of (same v) (triangle_indices m c)) 1 0) 0 = ap {B = ℕ} (λ (t : Bool). cond t 1 0) h in
          let same_set = count_alike (λ a. eqb v a || (S a || joins m (same v) a c)) (λ a. eqb v a || S a) n (λ a l. rw (h, or-false (S a))) in
          omega (arith, none, same_set, ih)

pub ring-size : (m : Mesh) (v : ℕ) → count_below (ring m (same v)) (nnode m) ≤ 2 * panels_at m v + 1
ring-size m v = omega (arith, ring_bound m v (nnode m) (ntri m), count_more (λ a. eqb v a) (ring m (same v)) (nnode m))

pub named_bound : (m : Mesh) (v : ℕ) → named_count (ring m (same v)) (nnode m) ≤ 2 * nnode m * (2 * panels_at m v + 1)
named_bound m v =
    let h = mul-le-mul_left (2 * nnode m) (ring-size m v) in
    omega (arith, named_count_lem (ring m (same v)) (nnode m), h)
