-- When the answer of a list of checks, whatever its length, is one of its numbers and when it is 0, by recursion on the list; a number may stand in it more than once. And what a call leaves, by cases on its number.
use mathlib.Core.Path.{◌≡◌, refl, sym, subst}
use mathlib.Core.Logic.{◌↔◌, ◌⊎◌, inl, inr}
use mathlib.Core.Bool.{Bool, true, false, not, ◌&&◌, cond, true≢false}
use mathlib.Core.List.{List, [], ◌∷◌, ◌++◌}
use Prim.Native.Nat.{ℕ, ◌<◌}
use borrow.Author.Tests.{ne_eqb}
use lib.Dec.{T, eqb, eqb_refl, T_not, ltb, ltb→lt}
use lib.Ieee.Fits.{and_l, and_r}
use Rattle.refusal.specs.Checks.{Check, check, first, after, Clear, lacks}

-- a check with another number than the answer's did not apply
other : (c : Check) (cs : List Check) (k : ℕ) → T (not (eqb c.number k)) → cond c.applies c.number (first cs) ≡ k → (c.applies ≡ false) × (first cs ≡ k)
other c cs k n e = go c.applies refl e
  where
    go : (t : Bool) → c.applies ≡ t → cond t c.number (first cs) ≡ k → (c.applies ≡ false) × (first cs ≡ k)
    go true a g = absurd (T_not (eqb c.number k) n (subst (λ (x : ℕ). T (eqb x k)) (sym g) (eqb_refl k)))
    go false a g = (a, g)

-- the answer is 0 exactly if no check applies
pub none-applies : (cs : List Check) → T (lacks 0 cs) → (first cs ≡ 0) ↔ Clear cs
unfolding first
none-applies [] n = (λ e. tt, λ h. refl)
none-applies (c ∷ cs) n =
    let w = none-applies cs (and_r (not (eqb c.number 0)) (lacks 0 cs) n) in
    let o = other c cs 0 (and_l (not (eqb c.number 0)) (lacks 0 cs) n) in
    (λ e. ((o e).0, w.0 (o e).1), λ h. rw h.0 (w.1 h.1))

-- an answer that no check has is 0
lacking : (k : ℕ) (cs : List Check) → T (lacks k cs) → first cs ≡ k → k ≡ 0
unfolding first
lacking k [] n e = sym e
lacking k (c ∷ cs) n e = lacking k cs (and_r (not (eqb c.number k)) (lacks k cs) n) (other c cs k (and_l (not (eqb c.number k)) (lacks k cs) n) e).1

-- the answer is k exactly if k's check applies and none before it does
pub applies-first : (before : List Check) (k : ℕ) (t : Bool) (after : List Check) → T (not (eqb k 0)) → T (lacks k before) → T (lacks k after)
    → (first (before ++ check k t ∷ after) ≡ k) ↔ (Clear before × (t ≡ true))
unfolding first
applies-first [] k t after z n n' = (λ e. (tt, go t e), λ h. rw h.1)
  where
    go : (t : Bool) → cond t k (first after) ≡ k → t ≡ true
    go true e = refl
    go false e = absurd (T_not (eqb k 0) z (subst (λ (x : ℕ). T (eqb k x)) (lacking k after n' e) (eqb_refl k)))
applies-first (c ∷ cs) k t after z n n' =
    let w = applies-first cs k t after z (and_r (not (eqb c.number k)) (lacks k cs) n) n' in
    let o = other c (cs ++ check k t ∷ after) k (and_l (not (eqb c.number k)) (lacks k cs) n) in
    (λ e. let v = w.0 (o e).1 in (((o e).0, v.0), v.1), λ h. rw h.0.0 (w.1 (h.0.1, h.1)))

-- ---- how large an answer can be
-- 0 and every number of the checks are below k
abbrev pub numbers_below : ℕ → List Check → Bool
numbers_below k [] = ltb 0 k
numbers_below k (c ∷ cs) = ltb c.number k && numbers_below k cs

pub first_below : (k : ℕ) (cs : List Check) → T (numbers_below k cs) → first cs < k
unfolding first
first_below k [] h = ltb→lt 0 k h
first_below k (c ∷ cs) h = go c.applies (first_below k cs (and_r (ltb c.number k) (numbers_below k cs) h))
  where
    go : (t : Bool) → first cs < k → cond t c.number (first cs) < k
    go true l = ltb→lt c.number k (and_l (ltb c.number k) (numbers_below k cs) h)
    go false l = l

-- ---- checks in two parts
-- the answer is k exactly if the first part gives it, or is clear and the second part gives it; k may stand in both
pub in_parts : (cs ds : List Check) (k : ℕ) → T (not (eqb k 0)) → (first (cs ++ ds) ≡ k) ↔ ((first cs ≡ k) ⊎ (Clear cs × (first ds ≡ k)))
unfolding first
in_parts [] ds k z = (λ e. inr (tt, e), back)
  where
    back : (0 ≡ k) ⊎ (Clear [] × (first ds ≡ k)) → first ds ≡ k
    back (inl e) = absurd (T_not (eqb k 0) z (subst (λ (x : ℕ). T (eqb k x)) (sym e) (eqb_refl k)))
    back (inr h) = h.1
in_parts (c ∷ cs) ds k z = go c.applies (in_parts cs ds k z)
  where
    go : (t : Bool)
        → ((first (cs ++ ds) ≡ k) ↔ ((first cs ≡ k) ⊎ (Clear cs × (first ds ≡ k))))
        → (cond t c.number (first (cs ++ ds)) ≡ k) ↔ ((cond t c.number (first cs) ≡ k) ⊎ (((t ≡ false) × Clear cs) × (first ds ≡ k)))
    go true w = (inl, back)
      where
        back : (c.number ≡ k) ⊎ (((true ≡ false) × Clear cs) × (first ds ≡ k)) → c.number ≡ k
        back (inl e) = e
        back (inr h) = absurd (true≢false h.0.0)
    go false w = (λ e. on (w.0 e), λ h. w.1 (back h))
      where
        on : (first cs ≡ k) ⊎ (Clear cs × (first ds ≡ k)) → (first cs ≡ k) ⊎ (((false ≡ false) × Clear cs) × (first ds ≡ k))
        on (inl e) = inl e
        on (inr h) = inr ((refl, h.0), h.1)

        back : (first cs ≡ k) ⊎ (((false ≡ false) × Clear cs) × (first ds ≡ k)) → (first cs ≡ k) ⊎ (Clear cs × (first ds ≡ k))
        back (inl e) = inl e
        back (inr h) = inr (h.0.1, h.1)

-- the second part decides once the first is clear
pub first-passed : (cs ds : List Check) → Clear cs → first (cs ++ ds) ≡ first ds
unfolding first
first-passed [] ds h = refl
first-passed (c ∷ cs) ds h = rw h.0 (first-passed cs ds h.1)

pub first_stopped : (cs ds : List Check) → (first cs ≡ 0 → ⊥) → first (cs ++ ds) ≡ first cs
unfolding first
first_stopped [] ds h = absurd (h refl)
first_stopped (c ∷ cs) ds h = go c.applies h (first_stopped cs ds)
  where
    go : (t : Bool) → (cond t c.number (first cs) ≡ 0 → ⊥) → ((first cs ≡ 0 → ⊥) → first (cs ++ ds) ≡ first cs) → cond t c.number (first (cs ++ ds)) ≡ cond t c.number (first cs)
    go true g f = refl
    go false g f = f g

pub clear_parts : (cs ds : List Check) → Clear (cs ++ ds) ↔ (Clear cs × Clear ds)
clear_parts [] ds = (λ h. (tt, h), λ h. h.1)
clear_parts (c ∷ cs) ds =
    let w = clear_parts cs ds in
    (λ h. let v = w.0 h.1 in ((h.0, v.0), v.1), λ h. (h.0.0, w.1 (h.0.1, h.1)))

pub lacks_parts : (k : ℕ) (cs ds : List Check) → T (lacks k cs) → T (lacks k ds) → T (lacks k (cs ++ ds))
lacks_parts k [] ds l o = o
lacks_parts k (c ∷ cs) ds l o =
    let own = not (eqb c.number k) in
    both own (lacks k (cs ++ ds)) (and_l own (lacks k cs) l) (lacks_parts k cs ds (and_r own (lacks k cs) l) o)
  where
    both : (s t : Bool) → T s → T t → T (s && t)
    both true t p q = q
    both false t p q = absurd p

never : (cs : List Check) (k : ℕ) → T (not (eqb k 0)) → T (lacks k cs) → first cs ≡ k → ⊥
never cs k z n e = T_not (eqb k 0) z (subst (λ (x : ℕ). T (eqb k x)) (lacking k cs n e) (eqb_refl k))

-- a number that the second part lacks is the first part's
pub of_front : (cs ds : List Check) (k : ℕ) → T (not (eqb k 0)) → T (lacks k ds) → (first (cs ++ ds) ≡ k) ↔ (first cs ≡ k)
of_front cs ds k z n = (λ e. go ((in_parts cs ds k z).0 e), λ e. (in_parts cs ds k z).1 (inl e))
  where
    go : (first cs ≡ k) ⊎ (Clear cs × (first ds ≡ k)) → first cs ≡ k
    go (inl e) = e
    go (inr h) = absurd (never ds k z n h.1)

-- a number that the first part lacks is the second part's
pub of_back : (cs ds : List Check) (k : ℕ) → T (not (eqb k 0)) → T (lacks k cs) → (first (cs ++ ds) ≡ k) ↔ (Clear cs × (first ds ≡ k))
of_back cs ds k z n = (λ e. go ((in_parts cs ds k z).0 e), λ h. (in_parts cs ds k z).1 (inr h))
  where
    go : (first cs ≡ k) ⊎ (Clear cs × (first ds ≡ k)) → Clear cs × (first ds ≡ k)
    go (inl e) = absurd (never cs k z n e)
    go (inr h) = h

-- ---- what a call leaves
pub after-done : {A : Type 0} (r : ℕ) (due held : List A) → r ≡ 0 → after r due held ≡ due
unfolding after
after-done r due held e = rw e

pub after-refused : {A : Type 0} (r : ℕ) (due held : List A) → (r ≡ 0 → ⊥) → after r due held ≡ held
unfolding after
after-refused r due held n = rw (ne_eqb r 0 n)
