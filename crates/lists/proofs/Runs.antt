-- A column in a loop that writes h 0, h 1, … into it from index a on, c numbers in all, and where it stands after k turns.
-- A loop over one column or several then says of each in one line that it has begun, is a turn further, or is done; and each element of such a column is read back.
use mathlib.Core.Path.{◌≡◌, refl, sym, ap, ◌∙◌}
use mathlib.Core.Logic.{◌⊎◌, inl, inr}
use mathlib.Core.List.{List, [], ◌++◌, append-nil}
use Prim.Native.Nat.{ℕ, zero, suc, ◌+◌, ◌<◌, ◌≤◌}
use native.Mathlib.Nat.{zero-add, not-suc-le-zero, eq-or-lt_of_le}
use native.Mathlib.Numerals.{add-one}
use native.Mathlib.Omega.{arith}
use lib.ListN.{length, get_or, set, take, drop, length-set}
use lib.Seq.{paste, take-length, drop-length, get_or-set_same, get_or-set_other}
use Rattle.lists.specs.Filling.{tabulate, run}
use Rattle.lists.proofs.Filling.{tabulate_all, run_start, run_length, run_turn, run_next, column_end_lem}

-- held before the loop, now after k turns
pub record RunTo {A : Type 0} (held : List A) (a c : ℕ) (h : ℕ → A) (k : ℕ) (now : List A) : Type 0 where
  pub room : a + c ≤ length held
  pub below : k ≤ c
  pub long : length now ≡ length held
  pub written : now ≡ run held a c h k

module _ {A : Type 0} {held : List A} {a c : ℕ} {h : ℕ → A} where
  pub begun : a + c ≤ length held → RunTo held a c h 0 held
  begun r = record { room = r; below = omega arith; long = refl; written = run_start held a c h }

  -- there is room for the next number
  pub next_room : {k : ℕ} {now : List A} → RunTo held a c h k now → k < c → a + k + 1 ≤ length now
  next_room r l = omega (arith, r.room, r.long)

  pub one_further : {k : ℕ} {now new : List A} {v : A} → RunTo held a c h k now → k < c → new ≡ set now (a + k) v → v ≡ h k → RunTo held a c h (k + 1) new
  one_further {k} {now} {new} {v} r l u e =
      record {
        room = r.room;
        below = omega arith;
        long = ap length u ∙ length-set now (a + k) v ∙ r.long;
        written = run_next held now new a c h k v r.room l r.written u e;
      }

  pub all_run : {k : ℕ} {now : List A} → RunTo held a c h k now → c ≤ k → now ≡ run held a c h c
  all_run {k} r l = let z : k ≡ c = omega (arith, r.below) in r.written ∙ ap (run held a c h) z

-- a loop's end that puts the elements of a list
pub all_put : {A : Type 0} (d : A) (source : List A) {held : List A} {a : ℕ} {k : ℕ} {now : List A}
    → RunTo held a (length source) (λ (j : ℕ). get_or source j d) k now → length source ≤ k → now ≡ paste held a source (length source)
all_put {A = A} d source {held} {a} r l = all_run r l ∙ ap (λ (s : List A). paste held a s (length source)) (tabulate_all d source)

-- of a list that is put over one as long
pub put_over : {A : Type 0} (held source : List A) → length held ≡ length source → paste held 0 source (length source) ≡ source
put_over {A = A} held source e =
    let z : drop (0 + length source) held ≡ [] = ap (λ (k : ℕ). drop k held) (zero-add (length source) ∙ sym e) ∙ drop-length held in
    ap (λ (r : List A). take (length source) source ++ r) z ∙ append-nil (take (length source) source) ∙ take-length source

-- a column that the loop fills from its front, and one that it fills whole
module _ {A : Type 0} {held : List A} {c : ℕ} {h : ℕ → A} where
  pub front_further : {k : ℕ} {now new : List A} {v : A} → RunTo held 0 c h k now → k < c → new ≡ set now k v → v ≡ h k → RunTo held 0 c h (k + 1) new
  front_further {k} {now} {new} {v} r l u e = one_further r l (u ∙ ap (λ (j : ℕ). set now j v) (sym (zero-add k))) e

  pub filled_whole : {k : ℕ} {now : List A} → RunTo held 0 c h k now → length held ≡ c → c ≤ k → now ≡ tabulate c h
  filled_whole {k} {now} r e l = let z : k ≡ c = omega (arith, r.below) in column_end_lem held now c h k e z r.written

-- ---- an element after k turns: written, or what was held before the run and behind it
module _ {A : Type 0} (d : A) (held : List A) (a c : ℕ) (h : ℕ → A) (room : a + c ≤ length held) where
  turn : (k : ℕ) → suc k ≤ c → run held a c h (suc k) ≡ set (run held a c h k) (a + k) (h k)
  turn k l = ap (run held a c h) (sym (add-one k)) ∙ sym (run_turn held a c h k (h k) room l refl)

  elsewhere : (k i : ℕ) → k ≤ c → ((j : ℕ) → j < k → i ≡ a + j → ⊥) → get_or (run held a c h k) i d ≡ get_or held i d
  elsewhere zero i l b = ap (λ (r : List A). get_or r i d) (sym (run_start held a c h))
  elsewhere (suc k) i l b =
      ap (λ (r : List A). get_or r i d) (turn k l)
      ∙ get_or-set_other (run held a c h k) (a + k) i (h k) d (b k (omega arith))
      ∙ elsewhere k i (omega arith) (λ j m. b j (omega (arith, m)))

  pub run-before : (k i : ℕ) → k ≤ c → i < a → get_or (run held a c h k) i d ≡ get_or held i d
  run-before k i l b = elsewhere k i l (λ j m q. absurd (omega (arith, b, q)))

  pub run-behind : (k i : ℕ) → k ≤ c → a + k ≤ i → get_or (run held a c h k) i d ≡ get_or held i d
  run-behind k i l b = elsewhere k i l (λ j m q. absurd (omega (arith, b, m, q)))

  pub run_inside : (k i : ℕ) → k ≤ c → i < k → get_or (run held a c h k) (a + i) d ≡ h i
  run_inside zero i l b = absurd (not-suc-le-zero b)
  run_inside (suc k) i l b = ap (λ (r : List A). get_or r (a + i) d) (turn k l) ∙ go (λ s. run_inside k i (omega arith) s) (eq-or-lt_of_le (omega (arith, b)))
    where
      go : (i < k → get_or (run held a c h k) (a + i) d ≡ h i) → (i ≡ k) ⊎ (i < k) → get_or (set (run held a c h k) (a + k) (h k)) (a + i) d ≡ h i
      go f (inl z) = rw z (get_or-set_same (run held a c h k) (a + k) (h k) d (rw (run_length held a c h k room (omega arith)) (omega arith)))
      go f (inr z) = get_or-set_other (run held a c h k) (a + k) (a + i) (h k) d (λ q. absurd (omega (arith, z, q))) ∙ f z
