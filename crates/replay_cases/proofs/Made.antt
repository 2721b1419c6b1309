-- An array that a function of the index makes is the list of its values: by induction over the calls, each of which leaves the function as it was.
use Rattle.std.proofs.Common.{◌≡◌, ℕ, zero, suc, ◌+◌, ◌<◌, List, get_or, sym, ◌∙◌, subst, add-zero, zero-add, arith}
use Rattle.std.specs.Array.{IsFromFnResult, IsFromFnResultFrom}
use denote.Param.Members.{Mut, Called}
use native.Mathlib.Nat.{le_of_suc-le-suc}
use lib.Seq.{ext_get_or}
use Rattle.lists.specs.Filling.{tabulate}
use Rattle.lists.proofs.Filling.{tabulate-length, tabulate_get}

module _ {F B : Type 0} (g : Mut F (ℕ × Unit {0}) B) (h : ℕ → B) (d : B) {f : F} (call : (i : ℕ) (y : B) (q : F) → Called g f (i, tt) y q → (q ≡ f) × (y ≡ h i)) where
  made_at : (ys : List B) (i n : ℕ) → IsFromFnResultFrom g f ys i n → (k : ℕ) → k < n → get_or ys (i + k) d ≡ h (i + k)
  made_at ys i zero r k l = absurd (omega (arith, l))
  made_at ys i (suc n) r zero l = rw add-zero (r.2.1 d ∙ (call i r.1 r.0 r.3).1)
  made_at ys i (suc n) r (suc k) l =
      let e : i + 1 + k ≡ i + suc k = omega arith in
      let rest = subst (λ q. IsFromFnResultFrom g q ys (i + 1) n) (call i r.1 r.0 r.3).0 r.4 in
      subst (λ j. get_or ys j d ≡ h j) e (made_at ys (i + 1) n rest k (le_of_suc-le-suc l))

  pub tabulate-made : {ys : List B} {n : ℕ} → IsFromFnResult g f ys n → ys ≡ tabulate n h
  tabulate-made {ys} {n} r =
      ext_get_or d ys (tabulate n h) (r.long ∙ sym (tabulate-length n h))
      (λ i l.
      let b : i < n = rw r.long at l in
      let c : get_or ys i d ≡ h i = subst (λ j. get_or ys j d ≡ h j) (zero-add i) (made_at ys 0 n r.each i b) in
      c ∙ sym (tabulate_get d n h i b))
