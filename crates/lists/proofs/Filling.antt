-- A list given one by one has its length and its elements; a loop that fills an output with it holds, after k turns, its first k and behind them what it held. The kit's laws of `paste` do the work.
use mathlib.Core.Path.{◌≡◌, refl, sym, ap, ◌∙◌}
use mathlib.Core.List.{List, [], ◌++◌, append-nil}
use Prim.Native.Nat.{ℕ, zero, suc, ◌+◌, ◌<◌, ◌≤◌}
use native.Mathlib.Nat.{le_of_eq, not-suc-le-zero, le_of_suc-le-suc, zero-add}
use native.Mathlib.Numerals.{add-one}
use native.Mathlib.Omega.{arith}
use lib.ListN.{length, get_or, set, take, drop, length-take, length-drop}
use lib.Seq.{paste-zero, paste-suc, length-paste, length-take-le, take_all, take_at, take-add, drop-length, drop-append-add, drop-drop, get_or-take, get_or-drop, ext_get_or}
use lib.Ieee.{Float, nan}
use Rattle.lists.specs.Filling.{tabulate_from, tabulate, filled, run}

module _ {A : Type 0} where
  from-length : (g : ℕ → A) (i c : ℕ) → length (tabulate_from g i c) ≡ c
  unfolding tabulate_from
  from-length g i zero = refl
  from-length g i (suc c) = ap suc (from-length g (suc i) c)

  from_at : (d : A) (g : ℕ → A) (i c k : ℕ) → k < c → get_or (tabulate_from g i c) k d ≡ g (i + k)
  unfolding tabulate_from
  from_at d g i zero k l = absurd (not-suc-le-zero l)
  from_at d g i (suc c) zero l = ap g (omega arith)
  from_at d g i (suc c) (suc k) l = from_at d g (suc i) c k (le_of_suc-le-suc l) ∙ ap g (omega arith)

  pub tabulate-length : (n : ℕ) (g : ℕ → A) → length (tabulate n g) ≡ n
  tabulate-length n g = from-length g 0 n

  pub tabulate_get : (d : A) (n : ℕ) (g : ℕ → A) (k : ℕ) → k < n → get_or (tabulate n g) k d ≡ g k
  tabulate_get d n g k l = from_at d g 0 n k l ∙ ap g (zero-add k)

  -- a list is given by its own elements
  pub tabulate_all : (d : A) (l : List A) → tabulate (length l) (λ (k : ℕ). get_or l k d) ≡ l
  tabulate_all d l =
      let g : ℕ → A = λ k. get_or l k d in
      ext_get_or d (tabulate (length l) g) l (tabulate-length (length l) g)
      (λ k m.
      let h : k < length l = rw (tabulate-length (length l) g) at m in
      tabulate_get d (length l) g k h)

  pub fill_start : (held : List A) (n : ℕ) (g : ℕ → A) → held ≡ filled held n g 0
  fill_start held n g = paste-zero held 0 (tabulate n g)

  pub fill_length : (held : List A) (n : ℕ) (g : ℕ → A) (k : ℕ) → length held ≡ n → k ≤ n → length (filled held n g k) ≡ length held
  fill_length held n g k e l = length-paste held 0 (tabulate n g) k (omega arith) (rw (tabulate-length n g) l)

  fill_turn : (held : List A) (n : ℕ) (g : ℕ → A) (k : ℕ) (v : A) → length held ≡ n → k < n → v ≡ g k → set (filled held n g k) k v ≡ filled held n g (k + 1)
  fill_turn held n g k v e l h =
      let w = tabulate_get v n g k l in
      let t = paste-suc held 0 (tabulate n g) k v (omega arith) (rw (tabulate-length n g) l) in
      ap (λ (x : A). set (filled held n g k) k x) (h ∙ sym w)
      ∙ ap (λ (j : ℕ). set (filled held n g k) j (get_or (tabulate n g) k v)) (sym (zero-add k))
      ∙ t
      ∙ ap (filled held n g) (sym (add-one k))

  fill_end : (held : List A) (n : ℕ) (g : ℕ → A) → length held ≡ n → filled held n g n ≡ tabulate n g
  fill_end held n g e =
      let z : drop (0 + n) held ≡ [] = ap (λ (k : ℕ). drop k held) (zero-add n ∙ sym e) ∙ drop-length held in
      ap (λ (r : List A). take n (tabulate n g) ++ r) z ∙ append-nil (take n (tabulate n g)) ∙ take_all n (tabulate n g) (le_of_eq (tabulate-length n g))

  -- a loop's turn and its end, of the output as it stands
  pub column-long : (held now : List A) (n : ℕ) (g : ℕ → A) (k : ℕ) → length held ≡ n → k ≤ n → now ≡ filled held n g k → length now ≡ length held
  column-long held now n g k e l w = ap length w ∙ fill_length held n g k e l

  pub column_turn : (held now new : List A) (n : ℕ) (g : ℕ → A) (k : ℕ) (v : A) → length held ≡ n → k < n → now ≡ filled held n g k → new ≡ set now k v → v ≡ g k
      → new ≡ filled held n g (k + 1)
  column_turn held now new n g k v e l w u h = u ∙ ap (λ (r : List A). set r k v) w ∙ fill_turn held n g k v e l h

  pub column_end_lem : (held now : List A) (n : ℕ) (g : ℕ → A) (k : ℕ) → length held ≡ n → k ≡ n → now ≡ filled held n g k → now ≡ tabulate n g
  column_end_lem held now n g k e z w = w ∙ ap (filled held n g) z ∙ fill_end held n g e

  pub run_start : (held : List A) (a c : ℕ) (h : ℕ → A) → held ≡ run held a c h 0
  run_start held a c h = paste-zero held a (tabulate c h)

  pub run_length : (held : List A) (a c : ℕ) (h : ℕ → A) (k : ℕ) → a + c ≤ length held → k ≤ c → length (run held a c h k) ≡ length held
  run_length held a c h k l m = length-paste held a (tabulate c h) k (omega arith) (rw (tabulate-length c h) m)

  pub run_turn : (held : List A) (a c : ℕ) (h : ℕ → A) (k : ℕ) (v : A) → a + c ≤ length held → k < c → v ≡ h k → set (run held a c h k) (a + k) v ≡ run held a c h (k + 1)
  run_turn held a c h k v l m e =
      ap (λ (x : A). set (run held a c h k) (a + k) x) (e ∙ sym (tabulate_get v c h k m))
      ∙ paste-suc held a (tabulate c h) k v (omega arith) (rw (tabulate-length c h) m)
      ∙ ap (run held a c h) (sym (add-one k))

  -- the same of the output as it stands
  pub run_next : (held now new : List A) (a c : ℕ) (h : ℕ → A) (k : ℕ) (v : A) → a + c ≤ length held → k < c → now ≡ run held a c h k → new ≡ set now (a + k) v → v ≡ h k
      → new ≡ run held a c h (k + 1)
  run_next held now new a c h k v l m w u e = u ∙ ap (λ (r : List A). set r (a + k) v) w ∙ run_turn held a c h k v l m e

  part_at : (d : A) (n : ℕ) (g h : ℕ → A) (a c : ℕ) → a + c ≤ n → ((k : ℕ) → k < c → h k ≡ g (a + k)) → tabulate c h ≡ take c (drop a (tabulate n g))
  part_at d n g h a c l all =
      let long : length (take c (drop a (tabulate n g))) ≡ c = simp (length-take, length-drop, tabulate-length) (omega arith) in
      ext_get_or d (tabulate c h) (take c (drop a (tabulate n g))) (tabulate-length c h ∙ sym long)
      (λ i m.
      let q : i < c = rw (tabulate-length c h) at m in
      tabulate_get d c h i q ∙ all i q ∙ sym (tabulate_get d n g (a + i) (omega arith)) ∙ sym (get_or-drop a (tabulate n g) i d) ∙ sym (get_or-take c (drop a (tabulate n g)) i d q))

  -- a run of c turns after a turns of a longer run from the front
  pub run-run : (held : List A) (n : ℕ) (g h : ℕ → A) (a c : ℕ) → a + c ≤ n → ((k : ℕ) → k < c → h k ≡ g (a + k)) → run (filled held n g a) a c h c ≡ filled held n g (a + c)
  run-run held n g h a c l all =
      let S = tabulate n g in
      let x = filled held n g a in
      let head : length (take a S) ≡ a = length-take-le a S (rw (tabulate-length n g) (omega arith)) in
      let front : take a x ≡ take a S = take_at (take a S) (drop (0 + a) held) a head in
      let middle : take c (tabulate c h) ≡ take c (drop a S) = take_all c (tabulate c h) (le_of_eq (tabulate-length c h)) ∙ part_at (g a) n g h a c l all in
      let same : 0 + a + c ≡ 0 + (a + c) = omega arith in
      let back : drop (a + c) x ≡ drop (0 + (a + c)) held =
      ap (λ (k : ℕ). drop (k + c) x) (sym head) ∙ drop-append-add (take a S) (drop (0 + a) held) c ∙ drop-drop c (0 + a) held ∙ ap (λ (k : ℕ). drop k held) same in
      ap (λ (r : List A). r ++ take c (tabulate c h) ++ drop (a + c) x) front
      ∙ ap (λ (r : List A). take a S ++ r ++ drop (a + c) x) middle
      ∙ ap (λ (r : List A). take a S ++ take c (drop a S) ++ r) back
      ∙ ap (λ (r : List A). r ++ drop (0 + (a + c)) held) (sym (take-add a c S))

-- of numbers, with the NaN that stands past an array's end
pub tabulate_at : (n : ℕ) (g : ℕ → Float) (k : ℕ) → k < n → get_or (tabulate n g) k nan ≡ g k
tabulate_at n g k l = tabulate_get nan n g k l
