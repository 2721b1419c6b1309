-- The number of named cells is 2nr − r² for a set of r nodes: a named row has n cells, any other one for each node of the set, and what both ways count is taken off.
use mathlib.Core.Path.{◌≡◌, refl}
use mathlib.Core.Bool.{Bool, true, false, cond}
use Prim.Native.Nat.{ℕ, zero, suc, ◌+◌, ◌*◌, ◌-◌, ◌≤◌}
use native.Mathlib.Omega.{arith}
use native.Mathlib.Nat.{add-mul, suc-mul, zero-mul, mul_comm, mul_assoc}
use native.Mathlib.Numerals.{add-one}
use mathlib.Core.List.{List}
use lib.ListN.{length, get_or, take}
use Rattle.std.specs.List.{count_by}
use Rattle.std.proofs.lemmas.List.Sums.{count_by_more_yes, count_by_more_no}
use Rattle.lists.specs.Counting.{count_below}
use Rattle.lists.proofs.Counting.{count_alike}
use Rattle.scatter.specs.Renewal.{named, marked}
use Rattle.node_ring.specs.Ring.{count_rows, named_count}

count_all : (n : ℕ) → count_below (λ b. true) n ≡ n
unfolding count_below
count_all zero = refl
count_all (suc n) = let h = count_all n in omega arith

module _ (r : ℕ → Bool) (n : ℕ) where
  row_count : (a : ℕ) (t : Bool) → r a ≡ t → count_below (named r a) n + cond t 1 0 * count_below r n ≡ cond t 1 0 * n + count_below r n
  row_count a true h =
      let e = count_alike (named r a) (λ b. true) n (λ k l. rw h) in
      let g = count_all n in
      let p : 1 * count_below r n ≡ count_below r n = omega arith in
      omega arith
  row_count a false h =
      let e = count_alike (named r a) r n (λ k l. rw h) in
      omega (arith, zero-mul (count_below r n), zero-mul n)

  rows_count : (c : ℕ) → count_rows (named r) n c + count_below r c * count_below r n ≡ count_below r c * n + c * count_below r n
  unfolding count_rows count_below
  rows_count zero = omega (arith, zero-mul (count_below r n), zero-mul n)
  rows_count (suc c) =
      omega (arith, rows_count c, row_count c (r c) refl, add-mul (count_below r c) (cond (r c) 1 0) (count_below r n), add-mul (count_below r c) (cond (r c) 1 0) n, suc-mul c (count_below r n))

  pub named_count_lem : named_count r n ≡ 2 * n * count_below r n - count_below r n * count_below r n
  named_count_lem =
      omega (arith, rows_count n, mul_comm n (count_below r n), mul_assoc 2 n (count_below r n))

-- the library's count of the marks that are set is the definition's
pub marks_counted : (marks : List Bool) (n : ℕ) → n ≤ length marks → count_by (λ m. m) (take n marks) ≡ count_below (marked marks) n
unfolding count_below
marks_counted marks zero h = refl
marks_counted marks (suc n) h = go (get_or marks n false) refl (marks_counted marks n (omega (arith, h)))
  where
    go : (b : Bool) → get_or marks n false ≡ b → count_by (λ m. m) (take n marks) ≡ count_below (marked marks) n
        → count_by (λ m. m) (take (suc n) marks) ≡ count_below (marked marks) n + cond (get_or marks n false) 1 0
    go true e ih = rw (← add-one n, count_by_more_yes (λ m. m) marks n false (omega (arith, h)) e, ih, e) refl
    go false e ih = rw (← add-one n, count_by_more_no (λ m. m) marks n false (omega (arith, h)) e, ih, e) (omega arith)
