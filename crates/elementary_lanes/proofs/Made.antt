-- A loop that fills an array of n numbers, one a turn, each in a relation R to its place: what holds after k turns as a record, and one law each of a turn and
-- of the end.
use Rattle.std.proofs.Common.{ℕ, ◌+◌, ◌≤◌, ◌<◌, List, length, sym, subst, lt_irrefl, lt_of_lt_of_le}
use lib.ListN.{set, length-set}
use lib.Seq.{get_or-set_same, get_or-set_other}
use lib.Ieee.{Float, nan}
use Rattle.binary64.specs.Binary64.{at}
use Rattle.lists.proofs.Indices.{one_more}

pub record Made (n : ℕ) (R : ℕ → Float → Type 0) (r : List Float) (k : ℕ) : Type 0 where
  pub long : n ≤ length r
  pub done : (i : ℕ) → i < k → R i (at r i)

pub made_next : {n : ℕ} {R : ℕ → Float → Type 0} {r : List Float} {k : ℕ} (v : Float) → k < n → R k v → Made n R r k → Made n R (set r k v) (k + 1)
made_next {n} {R} {r} {k} v h e m = record {
  long = subst (λ (l : ℕ). n ≤ l) (sym (length-set r k v)) m.long;
  done = one_more (λ (i : ℕ). R i (at (set r k v) i)) k
      (λ i l. subst (R i) (sym (get_or-set_other r k i v nan (λ q. lt_irrefl k (subst (λ (j : ℕ). j < k) q l)))) (m.done i l))
      (subst (R k) (sym (get_or-set_same r k v nan (lt_of_lt_of_le h m.long))) e);
}

pub made_all : {n : ℕ} {R : ℕ → Float → Type 0} {r : List Float} {k : ℕ} → n ≤ k → Made n R r k → (i : ℕ) → i < n → R i (at r i)
made_all h m i l = m.done i (lt_of_lt_of_le l h)
