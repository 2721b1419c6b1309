-- A list's test of every element, and that of every pair of two lists, are tests of every place: a front element is the first place.
use Rattle.std.proofs.Common.{◌≡◌, ℕ, zero, suc, ◌+◌, ◌-◌, ◌≤◌, Bool, true, false, ◌&&◌, List, [], ◌∷◌, length, get_or, take, drop, zip, refl, ap, sym, ◌∙◌, arith, eqb, length-drop}
use Rattle.std.specs.List.{list_all}
use Rattle.std.proofs.lemmas.List.{get_or-drop, take_all}
use Rattle.replay_words.specs.Buffers.{all_below}

and_assoc_lem : (a b c : Bool) → ((a && b) && c) ≡ (a && (b && c))
and_assoc_lem true b c = refl
and_assoc_lem false b c = refl

and_true : (a : Bool) → a ≡ (a && true)
and_true true = refl
and_true false = refl

front : (t : ℕ → Bool) (n : ℕ) → all_below t (suc n) ≡ (t 0 && all_below (λ i. t (suc i)) n)
unfolding all_below
front t zero = and_true (t 0)
front t (suc n) = rw (front t n) (and_assoc_lem (t 0) (all_below (λ i. t (suc i)) n) (t (suc n)))

module _ {A : Type 0} (test : A → Bool) (d : A) where
  pub all-below : (v : List A) → list_all test v ≡ all_below (λ i. test (get_or v i d)) (length v)
  unfolding all_below
  all-below [] = refl
  all-below (x ∷ v) = ap (λ r. test x && r) (all-below v) ∙ sym (front (λ i. test (get_or (x ∷ v) i d)) (length v))

module _ {A B : Type 0} (test : A → B → Bool) (d : A) (e : B) where
  pub zip-below : (v : List A) (u : List B) → length v ≤ length u → list_all (λ (p : A × B). test p.0 p.1) (zip v u) ≡ all_below (λ i. test (get_or v i d) (get_or u i e)) (length v)
  unfolding all_below
  zip-below [] u h = refl
  zip-below (x ∷ v) [] h = absurd (omega (arith, h))
  zip-below (x ∷ v) (y ∷ u) h = ap (λ r. test x y && r) (zip-below v u (omega (arith, h))) ∙ sym (front (λ i. test (get_or (x ∷ v) i d) (get_or (y ∷ u) i e)) (length v))

-- a list beside the words from place k on, of n
pub zip-stored : {A : Type 0} (word : A → ℕ) (d : A) (v : List A) (w : List ℕ) (k n : ℕ) → length w ≡ n → k + length v ≤ n → list_all (λ (p : A × ℕ). eqb (word p.0) p.1) (zip v (take (n - k) (drop k w))) ≡ all_below (λ i. eqb (word (get_or v i d)) (get_or w (k + i) 0)) (length v)
zip-stored word d v w k n l h =
    let long : length (drop k w) ≤ n - k = omega (arith, length-drop k w, l) in
    rw (take_all (n - k) (drop k w) long) (simp get_or-drop at (zip-below (λ x m. eqb (word x) m) d 0 v (drop k w) (omega (arith, length-drop k w, h, l))))

-- two lists by their words
pub zip-same : {A : Type 0} (word : A → ℕ) (d : A) (v u : List A) → length v ≤ length u → list_all (λ (p : A × A). eqb (word p.0) (word p.1)) (zip v u) ≡ all_below (λ i. eqb (word (get_or v i d)) (word (get_or u i d))) (length v)
zip-same word d v u h = zip-below (λ x y. eqb (word x) (word y)) d d v u h
