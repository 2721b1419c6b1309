-- Elements put into a buffer one behind the other: two puts in a row are one (`both`), a put is a paste, and a buffer put full is the elements. A loop that puts one element a turn puts none at
-- first, then the next behind the first k (`put_next`), and at its end all; a loop that writes a list's bytes and holds `RunTo` ends in `Put` (`put_run`). Assumes nothing.
use mathlib.Core.Path.{◌≡◌, refl, sym, ap, subst, ◌∙◌}
use mathlib.Core.List.{List, [], ◌∷◌, ◌++◌, append_assoc, append-nil}
use Prim.Native.Nat.{ℕ, ◌+◌, ◌<◌, ◌≤◌}
use native.Mathlib.Nat.{add-zero, zero-add}
use native.Mathlib.Numerals.{add-one}
use native.Mathlib.Omega.{arith}
use lib.ListN.{length, get_or, set, take, drop, length-append, take-append-drop}
use lib.Seq.{paste, take-suc, take-length, take_at, drop-length, drop-append-add, drop-drop, length-take-le}
use Rattle.std.proofs.lemmas.List.{take-set, drop-set}
use Rattle.lists.specs.Putting.{Put}
use Rattle.lists.proofs.Runs.{RunTo, all_put}

-- a loop's end
pub put_run : {held : List ℕ} {from : ℕ} {bytes : List ℕ} {k : ℕ} {left : List ℕ} (to : ℕ) → RunTo held from (length bytes) (λ (j : ℕ). get_or bytes j 0) k left → length bytes ≤ k → to ≡ from + k
    → Put held from bytes left to
put_run {held} {from} {bytes} {k} to r l u =
    let e : k ≡ length bytes = omega (arith, r.below) in
    record {
      behind = u ∙ ap (λ (n : ℕ). from + n) e;
      leaves = all_put 0 bytes r l
          ∙ ap (λ (x : List ℕ). take from held ++ x ++ drop (from + length bytes) held) (take-length bytes)
          ∙ append_assoc (take from held) bytes (drop (from + length bytes) held);
    }

-- nothing put
pub none : {A : Type 0} (held : List A) (from : ℕ) → Put held from [] held from
none held from =
    record {
      behind = sym (add-zero from);
      leaves = sym (ap (λ (n : ℕ). take from held ++ drop n held) (add-zero from) ∙ take-append-drop from held);
    }

-- one behind the other
module _ {A : Type 0} (held : List A) (from : ℕ) (a : List A) (mid : List A) (r : ℕ) (b left : List A) (s : ℕ) (room : from + length a ≤ length held) where
  pub both : Put held from a mid r → Put mid r b left s → Put held from (a ++ b) left s
  both p q =
      let n = from + length a in
      let head : length (take from held ++ a) ≡ n = length-append (take from held) a ∙ ap (λ (x : ℕ). x + length a) (length-take-le from held (omega arith)) in
      let e : mid ≡ (take from held ++ a) ++ drop n held = p.leaves ∙ sym (append_assoc (take from held) a (drop n held)) in
      let front : take r mid ≡ take from held ++ a = (λ i. take (p.behind i) (e i)) ∙ take_at (take from held ++ a) (drop n held) n head in
      let far : n + length b ≡ from + length (a ++ b) = omega (arith, length-append a b) in
      let k : r + length b ≡ length (take from held ++ a) + length b = ap (λ (x : ℕ). x + length b) (p.behind ∙ sym head) in
      let rest : drop (r + length b) mid ≡ drop (from + length (a ++ b)) held =
      (λ i. drop (k i) (e i)) ∙ drop-append-add (take from held ++ a) (drop n held) (length b) ∙ drop-drop (length b) n held ∙ ap (λ (x : ℕ). drop x held) far in
      record {
        behind = q.behind ∙ ap (λ (x : ℕ). x + length b) p.behind ∙ far;
        leaves = q.leaves
            ∙ (λ i. front i ++ (b ++ rest i))
            ∙ append_assoc (take from held) a (b ++ drop (from + length (a ++ b)) held)
            ∙ ap (λ (x : List A). take from held ++ x) (sym (append_assoc a b (drop (from + length (a ++ b)) held)));
      }

-- a buffer that is put full holds the elements alone
pub put_whole : {A : Type 0} (held items left : List A) (to : ℕ) → length held ≡ length items → Put held 0 items left to → left ≡ items
put_whole {A} held items left to e p =
    p.leaves
    ∙ ap (λ (k : ℕ). items ++ drop k held) (zero-add (length items) ∙ sym e)
    ∙ ap (λ (r : List A). items ++ r) (drop-length held)
    ∙ append-nil items

-- the same as a paste
pub put_pastes : {A : Type 0} {held : List A} {from : ℕ} {items left : List A} {to : ℕ} → Put held from items left to → left ≡ paste held from items (length items)
put_pastes {A} {held} {from} {items} p =
    let n = length items in
    p.leaves
    ∙ sym (append_assoc (take from held) items (drop (from + n) held))
    ∙ sym (ap (λ (x : List A). take from held ++ x ++ drop (from + n) held) (take-length items))

-- ---- a loop that puts one element a turn

-- one element, by its place
put_one : {A : Type 0} (held : List A) (from : ℕ) (x : A) → from < length held → Put held from (x ∷ []) (set held from x) (from + 1)
put_one {A} held from x h =
    record {
      behind = refl;
      leaves = sym (take-append-drop from (set held from x))
          ∙ (λ i. take-set held from x i ++ drop-set held from x h i);
    }

-- none of the items, at the loop's start
pub put_none : {A : Type 0} (held : List A) (from : ℕ) (items : List A) → Put held from (take 0 items) held (from + 0)
put_none {A} held from items =
    subst (λ (n : ℕ). Put held from (take 0 items) held n) (sym (add-zero from)) (none held from)

-- the next element behind the first k
pub put_next : {A : Type 0} {held now : List A} (from : ℕ) (items : List A) (k : ℕ) (x : A)
    → from + length items ≤ length held → k < length items → length now ≡ length held → x ≡ get_or items k x
    → Put held from (take k items) now (from + k) → Put held from (take (k + 1) items) (set now (from + k) x) (from + (k + 1))
put_next {A} {held} {now} from items k x room more long e p =
    let n : length (take k items) ≡ k = length-take-le k items (omega arith) in
    let new = set now (from + k) x in
    let q = both held from (take k items) now (from + k) (x ∷ []) new (from + k + 1) (omega (arith, n)) p (put_one now (from + k) x (omega arith)) in
    let m : take k items ++ (x ∷ []) ≡ take (k + 1) items =
    ap (λ (y : A). take k items ++ (y ∷ [])) e ∙ sym (take-suc items k x more) ∙ ap (λ (j : ℕ). take j items) (sym (add-one k)) in
    subst (λ (l : List A). Put held from l new (from + (k + 1))) m (subst (Put held from (take k items ++ (x ∷ [])) new) (omega arith) q)

-- the loop's end
pub put_all : {A : Type 0} {held now : List A} (from : ℕ) (items : List A) (k : ℕ) → k ≡ length items
    → Put held from (take k items) now (from + k) → Put held from items now (from + length items)
put_all {A} {held} {now} from items k e p =
    subst (λ (l : List A). Put held from l now (from + length items)) (take-length items)
    (subst (λ (n : ℕ). Put held from (take n items) now (from + n)) e p)
