-- Numbers of w bytes there and back: what was written is read (`own`, `fields_at`, `rows_at`), and what was read is written (`back`, `fields_back`, `rows_back`).
-- One field, three fields in a row, rows one behind the other. Assumes nothing.
use mathlib.Core.Path.{◌≡◌, refl, sym, ap, ◌∙◌, subst}
use mathlib.Core.List.{List, ◌∷◌, ◌++◌, append_assoc, append-nil}
use Prim.Native.Nat.{ℕ, zero, suc, ◌+◌, ◌*◌, ◌/◌, ◌%◌, ◌^◌, ◌≤◌, ◌<◌}
use native.Mathlib.Nat.{pow-suc, add-zero, zero-add, zero-mul, suc-mul, add_comm, add_assoc, not-suc-le-zero}
use native.Mathlib.Numerals.{add-one}
use native.Mathlib.Omega.{arith}
use lib.ListN.{length, get_or, take, drop, length-append, get_or-append}
use lib.Seq.{drop-cons, drop-drop, drop_at, drop-append-add, get_or-drop, take-add}
use Rattle.panel_file.specs.LittleEndian.{little_endian, to_little_endian, three_fields, rows_from}
use Rattle.panel_file.specs.PanelFile.{Bytes}

-- ---- one field
within : (w : ℕ) (l r : List ℕ) (j : ℕ) → j + w ≤ length l → little_endian w (l ++ r) j ≡ little_endian w l j
unfolding little_endian
within zero l r j h = refl
within (suc w) l r j h = (λ i. get_or-append l r 0 j (omega arith) i + 256 * within w l r (suc j) (omega arith) i)

dropped : (w : ℕ) (b : List ℕ) (i j : ℕ) → little_endian w b (i + j) ≡ little_endian w (drop i b) j
unfolding little_endian
dropped zero b i j = refl
dropped (suc w) b i j =
    let e : suc (i + j) ≡ i + suc j = omega arith in
    (λ k. sym (get_or-drop i b j 0) k + 256 * (ap (little_endian w b) e ∙ dropped w b i (suc j)) k)

behind : (w x : ℕ) (l : List ℕ) (j : ℕ) → little_endian w (x ∷ l) (suc j) ≡ little_endian w l j
unfolding little_endian
behind zero x l j = refl
behind (suc w) x l j = ap (λ (n : ℕ). get_or l j 0 + 256 * n) (behind w x l (suc j))

rest : (n p : ℕ) → n < p * 256 → n / 256 < p
rest n p h = omega arith

own : (w n : ℕ) → n < 256 ^ w → little_endian w (to_little_endian w n) 0 ≡ n
unfolding little_endian to_little_endian
own zero n h = omega arith
own (suc w) n h =
    let l : n / 256 < 256 ^ w = rest n (256 ^ w) (subst (λ (x : ℕ). n < x) (pow-suc 256 w) h) in
    let e : n % 256 + 256 * (n / 256) ≡ n = omega arith in
    ap (λ (x : ℕ). n % 256 + 256 * x) (behind w (n % 256) (to_little_endian w (n / 256)) 0 ∙ own w (n / 256) l) ∙ e

pub field-length : (w n : ℕ) → length (to_little_endian w n) ≡ w
unfolding to_little_endian
field-length zero n = refl
field-length (suc w) n = ap suc (field-length w (n / 256))

field_at : (w : ℕ) (b : List ℕ) (i n : ℕ) (r : List ℕ) → n < 256 ^ w → drop i b ≡ to_little_endian w n ++ r → little_endian w b i ≡ n
field_at w b i n r h e =
    let l : 0 + w ≤ length (to_little_endian w n) = omega (arith, field-length w n) in
    ap (little_endian w b) (sym (add-zero i)) ∙ dropped w b i 0 ∙ ap (λ (x : List ℕ). little_endian w x 0) e ∙ within w (to_little_endian w n) r 0 l ∙ own w n h

-- a byte and what is above it
lowest : (x y : ℕ) → x < 256 → (x + 256 * y) % 256 ≡ x
lowest x y h = omega arith

higher : (x y : ℕ) → x < 256 → (x + 256 * y) / 256 ≡ y
higher x y h = omega arith

pub back : (w : ℕ) (b : List ℕ) (i : ℕ) → Bytes b → i + w ≤ length b → to_little_endian w (little_endian w b i) ≡ take w (drop i b)
unfolding little_endian to_little_endian
back zero b i h l = refl
back (suc w) b i h l =
    let x = get_or b i 0 in
    let y = little_endian w b (suc i) in
    (λ k. lowest x y (h i) k ∷ (ap (to_little_endian w) (higher x y (h i)) ∙ back w b (suc i) h (omega arith)) k)
    ∙ ap (take (suc w)) (sym (drop-cons b i 0 (omega arith)))

-- ---- three fields
pub fields_length : (w a b c : ℕ) → length (three_fields w a b c) ≡ w + (w + w)
unfolding three_fields
fields_length w a b c = length-append (to_little_endian w a) _ ∙ (λ i. field-length w a i + (length-append (to_little_endian w b) (to_little_endian w c) ∙ (λ j. field-length w b j + field-length w c j)) i)

pub record Three (w : ℕ) (f : List ℕ) (i a b c : ℕ) : Type 0 where
  pub first : little_endian w f i ≡ a
  pub second : little_endian w f (i + w) ≡ b
  pub third : little_endian w f (i + (w + w)) ≡ c

pub fields_at : (w : ℕ) (f : List ℕ) (i a b c : ℕ) (r : List ℕ) → a < 256 ^ w → b < 256 ^ w → c < 256 ^ w → drop i f ≡ three_fields w a b c ++ r → Three w f i a b c
unfolding three_fields
fields_at w f i a b c r ha hb hc e =
    let A = to_little_endian w a in
    let B = to_little_endian w b in
    let C = to_little_endian w c in
    let e0 : drop i f ≡ A ++ ((B ++ C) ++ r) = e ∙ append_assoc A (B ++ C) r in
    let e1 : drop (i + w) f ≡ B ++ (C ++ r) = sym (drop-drop w i f) ∙ ap (drop w) e0 ∙ drop_at A ((B ++ C) ++ r) w (field-length w a) ∙ append_assoc B C r in
    let two : i + w + w ≡ i + (w + w) = omega arith in
    let e2 : drop (i + (w + w)) f ≡ C ++ r = ap (λ (k : ℕ). drop k f) (sym two) ∙ sym (drop-drop w (i + w) f) ∙ ap (drop w) e1 ∙ drop_at B (C ++ r) w (field-length w b) in
    record { first = field_at w f i a _ ha e0; second = field_at w f (i + w) b _ hb e1; third = field_at w f (i + (w + w)) c _ hc e2 }

pub fields_back : (w : ℕ) (f : List ℕ) (i : ℕ) → Bytes f → i + (w + (w + w)) ≤ length f
    → three_fields w (little_endian w f i) (little_endian w f (i + w)) (little_endian w f (i + (w + w))) ≡ take (w + (w + w)) (drop i f)
unfolding three_fields
fields_back w f i h l =
    let two : i + w + w ≡ i + (w + w) = omega arith in
    let t0 = back w f i h (omega arith) in
    let t1 = back w f (i + w) h (omega arith) ∙ ap (take w) (sym (drop-drop w i f)) in
    let t2 = back w f (i + (w + w)) h (omega arith) ∙ ap (take w) (ap (λ (k : ℕ). drop k f) (sym two) ∙ sym (drop-drop w (i + w) f) ∙ ap (drop w) (sym (drop-drop w i f))) in
    (λ k. t0 k ++ (t1 k ++ t2 k))
    ∙ ap (λ (x : List ℕ). take w (drop i f) ++ x) (sym (take-add w w (drop w (drop i f))))
    ∙ sym (take-add w (w + w) (drop i f))

-- ---- rows of v bytes
module _ (row : ℕ → List ℕ) (v : ℕ) where
  pub rows_length : ((k : ℕ) → length (row k) ≡ v) → (i c : ℕ) → length (rows_from row i c) ≡ c * v
  unfolding rows_from
  rows_length h i zero = sym (zero-mul v)
  rows_length h i (suc c) = length-append (row i) _ ∙ (λ j. h i j + rows_length h (suc i) c j) ∙ add_comm v (c * v) ∙ sym (suc-mul c v)

  pub rows_at : ((k : ℕ) → length (row k) ≡ v) → (i c k : ℕ) (tail : List ℕ) → k < c → (r : List ℕ) × (drop (k * v) (rows_from row i c ++ tail) ≡ row (i + k) ++ r)
  unfolding rows_from
  rows_at h i zero k tail l = absurd (not-suc-le-zero l)
  rows_at h i (suc c) zero tail l =
      (rows_from row (suc i) c ++ tail, ap (λ (x : ℕ). drop x (row i ++ rows_from row (suc i) c ++ tail)) (zero-mul v) ∙ append_assoc (row i) (rows_from row (suc i) c) tail ∙ ap (λ (x : ℕ). row x ++ (rows_from row (suc i) c ++ tail)) (sym (add-zero i)))
  rows_at h i (suc c) (suc k) tail l =
      let w = rows_at h (suc i) c k tail (omega arith) in
      let e : suc k * v ≡ length (row i) + k * v = suc-mul k v ∙ add_comm (k * v) v ∙ ap (λ (x : ℕ). x + k * v) (sym (h i)) in
      let s : suc i + k ≡ i + suc k = omega arith in
      (w.0, ap (λ (x : List ℕ). drop (suc k * v) x) (append_assoc (row i) (rows_from row (suc i) c) tail) ∙ ap (λ (x : ℕ). drop x (row i ++ (rows_from row (suc i) c ++ tail))) e ∙ drop-append-add (row i) _ (k * v) ∙ w.1 ∙ ap (λ (x : ℕ). row x ++ w.0) s)

  pub rows_back : (o : ℕ) (f : List ℕ) (i c : ℕ) → ((k : ℕ) → k < i + c → row k ≡ take v (drop (o + k * v) f)) → rows_from row i c ≡ take (c * v) (drop (o + i * v) f)
  unfolding rows_from
  rows_back o f i zero h = ap (λ (x : ℕ). take x (drop (o + i * v) f)) (sym (zero-mul v))
  rows_back o f i (suc c) h =
      let next : o + i * v + v ≡ o + suc i * v = add_assoc o (i * v) v ∙ ap (λ (x : ℕ). o + x) (sym (suc-mul i v)) in
      let t = rows_back o f (suc i) c (λ k l. h k (omega arith)) ∙ ap (take (c * v)) (ap (λ (x : ℕ). drop x f) (sym next) ∙ sym (drop-drop v (o + i * v) f)) in
      (λ j. h i (omega arith) j ++ t j)
      ∙ sym (take-add v (c * v) (drop (o + i * v) f))
      ∙ ap (λ (x : ℕ). take x (drop (o + i * v) f)) (add_comm v (c * v) ∙ sym (suc-mul c v))

-- ---- rows of any length
row_more : (row : ℕ → List ℕ) (i c : ℕ) → rows_from row i c ++ row (i + c) ≡ rows_from row i (suc c)
unfolding rows_from
row_more row i zero = ap row (add-zero i) ∙ sym (append-nil (row i))
row_more row i (suc c) =
    let e : i + suc c ≡ suc i + c = omega arith in
    append_assoc (row i) (rows_from row (suc i) c) (row (i + suc c)) ∙ ap (λ (x : List ℕ). row i ++ x) (ap (λ (k : ℕ). rows_from row (suc i) c ++ row k) e ∙ row_more row (suc i) c)

pub more_rows : (row : ℕ → List ℕ) (c : ℕ) → rows_from row 0 c ++ row c ≡ rows_from row 0 (c + 1)
more_rows row c = ap (λ (k : ℕ). rows_from row 0 c ++ row k) (sym (zero-add c)) ∙ row_more row 0 c ∙ ap (rows_from row 0) (sym (add-one c))

-- of at most w bytes each
pub rows_bound : (row : ℕ → List ℕ) (w : ℕ) → ((k : ℕ) → length (row k) ≤ w) → (i c : ℕ) → length (rows_from row i c) ≤ c * w
unfolding rows_from
rows_bound row w h i zero = omega arith
rows_bound row w h i (suc c) = omega (arith, length-append (row i) (rows_from row (suc i) c), h i, rows_bound row w h (suc i) c, suc-mul c w)
