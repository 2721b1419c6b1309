-- A loop that fills an array's first n numbers, one a turn: what holds after k turns as a record, and one law each of the start, of a turn and of the end.
-- It says nothing of what stands behind them: of a list that stays there as it was held, `Runs` has the record.
use mathlib.Core.Path.{◌≡◌, sym, ◌∙◌, subst}
use mathlib.Core.List.{List}
use Prim.Native.Nat.{ℕ, ◌+◌, ◌≤◌, ◌<◌, zero-le}
use native.Mathlib.Nat.{not-suc-le-zero, lt_irrefl, lt_of_lt_of_le}
use native.Mathlib.Omega.{arith}
use lib.ListN.{length, set, length-set}
use lib.Seq.{get_or-set_same, get_or-set_other}
use lib.Ieee.{Float, nan}
use Rattle.binary64.specs.Binary64.{at}
use Rattle.lists.specs.Filling.{Each}
use Rattle.lists.proofs.Indices.{one_more}

pub record Filled (n : ℕ) (g : ℕ → Float) (r : List Float) (k : ℕ) : Type 0 where
  pub within : k ≤ n
  pub long : n ≤ length r
  pub done : Each k g r

pub filled_start : {n : ℕ} {g : ℕ → Float} {r : List Float} → n ≤ length r → Filled n g r 0
filled_start l = record { within = zero-le; long = l; done = λ i h. absurd (not-suc-le-zero h) }

pub filled_next : {n : ℕ} {g : ℕ → Float} {r : List Float} {k : ℕ} {v : Float} → k < n → v ≡ g k → Filled n g r k → Filled n g (set r k v) (k + 1)
filled_next {n} {g} {r} {k} {v} h e f = record {
  within = omega arith;
  long = subst (λ (m : ℕ). n ≤ m) (sym (length-set r k v)) f.long;
  done = one_more (λ (i : ℕ). at (set r k v) i ≡ g i) k (λ i l. get_or-set_other r k i v nan (λ q. lt_irrefl k (subst (λ (m : ℕ). m < k) q l)) ∙ f.done i l)
      (get_or-set_same r k v nan (lt_of_lt_of_le h f.long) ∙ e);
}

pub filled_all : {n : ℕ} {g : ℕ → Float} {r : List Float} {k : ℕ} → n ≤ k → Filled n g r k → Each n g r
filled_all h f i l = f.done i (lt_of_lt_of_le l h)
