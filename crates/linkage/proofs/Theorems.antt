-- The numbers of the calls by their conditions: each test is turned into its condition and back, by cases on whether there are sources, and `applies-first` puts them in order.
use mathlib.Core.Path.{◌≡◌, refl, sym, ap, ◌∙◌, subst}
use mathlib.Core.Logic.{◌↔◌, ◌⊎◌, inl, inr}
use mathlib.Core.Bool.{Bool, true, false, not, ◌||◌, true≢false}
use mathlib.Core.List.{[], ◌∷◌, List}
use Prim.Native.Nat.{ℕ, ◌*◌, ◌/◌, ◌%◌, ◌<◌, ◌≤◌, ◌+◌}
use native.Mathlib.Nat.{mul-zero, mul-div_cancel, mul-mod_left, pos_of_ne-zero, not-suc-le-zero, not-le_of_lt, lt_of_mul-lt-mul_right, mul-le-mul_right}
use native.Mathlib.Omega.{arith}
use borrow.Author.Tests.{eqb-true, eqb-false, eq-eqb, ne_eqb, ltb-true, ltb-false, lt-ltb, le-ltb, leb-true, leb-false, le-leb, lt-leb}
use lib.Dec.{eqb, ltb, leb}
use Rattle.refusal.specs.Numbers.{nodal_values, matrix_length, too_large, no_such_node, coefficients, map_length, flux_length}
use Rattle.refusal.specs.Checks.{check, Clear}
use Rattle.refusal.proofs.Checks.{none-applies, applies-first}
use Rattle.mesh.specs.Mesh.{max_nodes}
use Rattle.refusal.proofs.Tests.{on, or_off, differ_off}
use Rattle.linkage.specs.Energy.{energy_refusal, vectors_refusal}
use Rattle.linkage.specs.Flux.{lacks_sources, broken_rows, rows_differ, map_checks, map_refusal}
use Rattle.linkage.specs.Row.{matrix_row_refusal, row_count, map_row_refusal, row_after, matrix_row, map_row}
use Rattle.linkage.specs.Conditions.{VectorsNumbered, MatrixRowNumbered, Multiple, MapNumbered, MapRowNumbered}
use Rattle.linkage.proofs.Sizes.{whole, one-vector, map-sized, matrix-row-sized, map-row-sized}
use lib.ListN.{length}
use lib.Ieee.{Float}
use Rattle.lists.specs.Stretch.{stretch}
use Rattle.lists.proofs.Stretches.{row_end, stretch-long}

-- ---- two numbers that are tested to differ
differ_on : (a b : ℕ) → (not (eqb a b) ≡ true) ↔ (a ≡ b → ⊥)
differ_on a b = on (not (eqb a b)) (a ≡ b) (differ_off a b)

-- ---- 5, 11, 7
pub vectors_numbered : (n t size : ℕ) → VectorsNumbered n t size (vectors_refusal n t size)
unfolding vectors_refusal
vectors_numbered n t size =
    let c5 = check nodal_values (not (eqb t n)) in
    let c11 = check too_large (ltb max_nodes n) in
    let c7 = check matrix_length (not (eqb size (n * n))) in
    let w5 = applies-first [] 5 c5.applies (c11 ∷ c7 ∷ []) tt tt tt in
    let w11 = applies-first (c5 ∷ []) 11 c11.applies (c7 ∷ []) tt tt tt in
    let w7 = applies-first (c5 ∷ c11 ∷ []) 7 c7.applies [] tt tt tt in
    let w0 = none-applies (c5 ∷ c11 ∷ c7 ∷ []) tt in
    let d = differ_off t n in
    let s = differ_off size (n * n) in
    record {
      is_5 = (λ e. (differ_on t n).0 (w5.0 e).1, λ h. w5.1 (tt, (differ_on t n).1 h));
      is_11 = (λ e. let v = w11.0 e in (d.0 v.0.0, ltb-true max_nodes n v.1), λ h. w11.1 ((d.1 h.0, tt), lt-ltb max_nodes n h.1));
      is_7 = (
        (λ e. let v = w7.0 e in (d.0 v.0.0, ltb-false max_nodes n v.0.1.0, (differ_on size (n * n)).0 v.1)),
        λ h. w7.1 ((d.1 h.0, (le-ltb max_nodes n h.1, tt)), (differ_on size (n * n)).1 h.2),
      );
      is_0 = (
        (λ e. let v = w0.0 e in (d.0 v.0, ltb-false max_nodes n v.1.0, s.0 v.1.1.0)),
        λ h. w0.1 (d.1 h.0, (le-ltb max_nodes n h.1, (s.1 h.2, tt))),
      );
    }

-- 11, 7: those of one vector with itself
pub energy_numbered : (n size : ℕ) → VectorsNumbered n n size (energy_refusal n size)
energy_numbered n size = subst (λ (r : ℕ). VectorsNumbered n n size r) (one-vector n size) (vectors_numbered n n size)

-- ---- 11, 7, 13
pub matrix-row_numbered : (size n node : ℕ) → MatrixRowNumbered size n node (matrix_row_refusal size n node)
unfolding matrix_row_refusal
matrix-row_numbered size n node =
    let c11 = check too_large (ltb max_nodes n) in
    let c7 = check matrix_length (not (eqb size (n * n))) in
    let c13 = check no_such_node (leb n node) in
    let w11 = applies-first [] 11 c11.applies (c7 ∷ c13 ∷ []) tt tt tt in
    let w7 = applies-first (c11 ∷ []) 7 c7.applies (c13 ∷ []) tt tt tt in
    let w13 = applies-first (c11 ∷ c7 ∷ []) 13 c13.applies [] tt tt tt in
    let w0 = none-applies (c11 ∷ c7 ∷ c13 ∷ []) tt in
    let s = differ_off size (n * n) in
    record {
      is_11 = (λ e. ltb-true max_nodes n (w11.0 e).1, λ h. w11.1 (tt, lt-ltb max_nodes n h));
      is_7 = (
        (λ e. let v = w7.0 e in (ltb-false max_nodes n v.0.0, (differ_on size (n * n)).0 v.1)),
        λ h. w7.1 ((le-ltb max_nodes n h.0, tt), (differ_on size (n * n)).1 h.1),
      );
      is_13 = (
        (λ e. let v = w13.0 e in (ltb-false max_nodes n v.0.0, s.0 v.0.1.0, leb-true n node v.1)),
        λ h. w13.1 ((le-ltb max_nodes n h.0, (s.1 h.1, tt)), le-leb n node h.2),
      );
      is_0 = (
        (λ e. let v = w0.0 e in (ltb-false max_nodes n v.0, s.0 v.1.0, leb-false n node v.1.1.0)),
        λ h. w0.1 (le-ltb max_nodes n h.0, (s.1 h.1, (lt-leb n node h.2, tt))),
      );
    }

-- ---- the tests of a map, with sources
module _ (size sources : ℕ) (some : sources ≡ 0 → ⊥) where
  not_none : eqb sources 0 ≡ false
  not_none = ne_eqb sources 0 some

  lacks-some : (nodes : ℕ) → lacks_sources size sources nodes ≡ false
  unfolding lacks_sources
  lacks-some nodes = rw not_none

  broken_some : broken_rows size sources ≡ not (eqb (size % sources) 0)
  unfolding broken_rows
  broken_some = rw not_none

  differ_some : (nodes : ℕ) → rows_differ size sources nodes ≡ not (eqb nodes (size / sources))
  unfolding rows_differ
  differ_some nodes = rw not_none

  rest_of : Multiple size sources → size % sources ≡ 0
  rest_of q = ap (λ (k : ℕ). k % sources) q.1 ∙ mul-mod_left q.0 sources

  rows_of : (nodes : ℕ) → size ≡ nodes * sources → nodes ≡ size / sources
  rows_of nodes e = sym (ap (λ (k : ℕ). k / sources) e ∙ mul-div_cancel nodes (pos_of_ne-zero some))

  rows_whole : broken_rows size sources ≡ false → Multiple size sources
  rows_whole e = (size / sources, whole size sources not_none e)

  whole_off : Multiple size sources → broken_rows size sources ≡ false
  whole_off q = broken_some ∙ (differ_off (size % sources) 0).1 (rest_of q)

  broken_on : (broken_rows size sources ≡ true) ↔ (Multiple size sources → ⊥)
  broken_on = (λ e q. true≢false (sym e ∙ whole_off q), λ h. go (broken_rows size sources) refl h)
    where
      go : (t : Bool) → broken_rows size sources ≡ t → (Multiple size sources → ⊥) → broken_rows size sources ≡ true
      go true e h = e
      go false e h = absurd (h (rows_whole e))

-- ---- and without
lacks-none : (size nodes : ℕ) → lacks_sources size 0 nodes ≡ (not (eqb size 0) || not (eqb nodes 0))
unfolding lacks_sources
lacks-none size nodes = refl

lacks-none_off : (size nodes : ℕ) → (lacks_sources size 0 nodes ≡ false) ↔ ((size ≡ 0) × (nodes ≡ 0))
lacks-none_off size nodes = (
  (λ e. let o = or_off _ _ (sym (lacks-none size nodes) ∙ e) in ((differ_off size 0).0 o.0, (differ_off nodes 0).0 o.1)),
  λ h. lacks-none size nodes ∙ rw (eq-eqb size 0 h.0, eq-eqb nodes 0 h.1),
)

sources_or : (sources : ℕ) → (sources ≡ 0) ⊎ (sources ≡ 0 → ⊥)
sources_or sources = go (eqb sources 0) refl
  where
    go : (t : Bool) → eqb sources 0 ≡ t → (sources ≡ 0) ⊎ (sources ≡ 0 → ⊥)
    go true e = inl (eqb-true sources 0 e)
    go false e = inr (eqb-false sources 0 e)

-- 8 and 9 apply exactly under their conditions
lacks_on : (size sources nodes : ℕ) → (lacks_sources size sources nodes ≡ true) ↔ ((sources ≡ 0) × ((size ≡ 0) × (nodes ≡ 0) → ⊥))
lacks_on size sources nodes = (λ e. to (sources_or sources) e, λ h. from h (lacks_sources size sources nodes) refl)
  where
    none : sources ≡ 0 → lacks_sources size sources nodes ≡ lacks_sources size 0 nodes
    none z = ap (λ (k : ℕ). lacks_sources size k nodes) z

    to : (sources ≡ 0) ⊎ (sources ≡ 0 → ⊥) → lacks_sources size sources nodes ≡ true → (sources ≡ 0) × ((size ≡ 0) × (nodes ≡ 0) → ⊥)
    to (inl z) e = (z, λ p. true≢false (sym e ∙ none z ∙ (lacks-none_off size nodes).1 p))
    to (inr h) e = absurd (true≢false (sym e ∙ lacks-some size sources h nodes))

    from : (sources ≡ 0) × ((size ≡ 0) × (nodes ≡ 0) → ⊥) → (t : Bool) → lacks_sources size sources nodes ≡ t → lacks_sources size sources nodes ≡ true
    from h true e = e
    from h false e = absurd (h.1 ((lacks-none_off size nodes).0 (sym (none h.0) ∙ e)))

lacks_off : (size sources nodes : ℕ) → lacks_sources size sources nodes ≡ false → sources ≡ 0 → (size ≡ 0) × (nodes ≡ 0)
lacks_off size sources nodes e z = (lacks-none_off size nodes).0 (sym (ap (λ (k : ℕ). lacks_sources size k nodes) z) ∙ e)

none_broken : (size sources : ℕ) → sources ≡ 0 → broken_rows size sources ≡ false
unfolding broken_rows
none_broken size sources z = rw z

broken_exactly : (size sources : ℕ) → (broken_rows size sources ≡ true) ↔ ((sources ≡ 0 → ⊥) × (Multiple size sources → ⊥))
broken_exactly size sources = (λ e. go (sources_or sources) e, λ h. (broken_on size sources h.0).1 h.1)
  where
    go : (sources ≡ 0) ⊎ (sources ≡ 0 → ⊥) → broken_rows size sources ≡ true → (sources ≡ 0 → ⊥) × (Multiple size sources → ⊥)
    go (inl z) e = absurd (true≢false (sym e ∙ none_broken size sources z))
    go (inr h) e = (h, (broken_on size sources h).0 e)

none_differ : (size sources nodes : ℕ) → sources ≡ 0 → rows_differ size sources nodes ≡ false
unfolding rows_differ
none_differ size sources nodes z = rw z

-- ---- 8, 9, 10
pub map_numbered : (size sources nodes : ℕ) → MapNumbered size sources nodes (map_refusal size sources nodes)
unfolding map_refusal
map_numbered size sources nodes =
    let c8 = check coefficients (lacks_sources size sources nodes) in
    let c9 = check map_length (broken_rows size sources) in
    let c10 = check flux_length (rows_differ size sources nodes) in
    let w8 = applies-first [] 8 c8.applies (c9 ∷ c10 ∷ []) tt tt tt in
    let w9 = applies-first (c8 ∷ []) 9 c9.applies (c10 ∷ []) tt tt tt in
    let w10 = applies-first (c8 ∷ c9 ∷ []) 10 c10.applies [] tt tt tt in
    let w0 = none-applies (c8 ∷ c9 ∷ c10 ∷ []) tt in
    let l = lacks_on size sources nodes in
    let b = broken_exactly size sources in
    record {
      is_8 = (λ e. l.0 (w8.0 e).1, λ h. w8.1 (tt, l.1 h));
      is_9 = (λ e. b.0 (w9.0 e).1, λ h. w9.1 ((lacks-some size sources h.0 nodes, tt), b.1 h));
      is_10 = (
        (λ e. let v = w10.0 e in ten (sources_or sources) v.0.1.0 v.1),
        λ h. w10.1 ((lacks-some size sources h.0 nodes, (whole_off size sources h.0 h.1, tt)), apart h),
      );
      is_0 = (
        (λ e. let v = w0.0 e in (map-sized size sources nodes (sym e), λ z. (lacks_off size sources nodes v.0 z).1)),
        λ h. w0.1 (clear (sources_or sources) h),
      );
    }
  where
    ten : (sources ≡ 0) ⊎ (sources ≡ 0 → ⊥) → broken_rows size sources ≡ false → rows_differ size sources nodes ≡ true
        → (sources ≡ 0 → ⊥) × Multiple size sources × (size ≡ nodes * sources → ⊥)
    ten (inl z) f e = absurd (true≢false (sym e ∙ none_differ size sources nodes z))
    ten (inr h) f e = (
      h,
      rows_whole size sources h f,
      λ q. (differ_on nodes (size / sources)).0 (sym (differ_some size sources h nodes) ∙ e) (rows_of size sources h nodes q),
    )

    apart : (sources ≡ 0 → ⊥) × Multiple size sources × (size ≡ nodes * sources → ⊥) → rows_differ size sources nodes ≡ true
    apart h =
        differ_some size sources h.0 nodes
        ∙ (differ_on nodes (size / sources)).1
        (λ q. h.2 (whole size sources (not_none size sources h.0) (whole_off size sources h.0 h.1) ∙ ap (λ (k : ℕ). k * sources) (sym q)))

    clear : (sources ≡ 0) ⊎ (sources ≡ 0 → ⊥) → (size ≡ nodes * sources) × (sources ≡ 0 → nodes ≡ 0)
        → Clear (map_checks size sources nodes)
    clear (inl z) h =
        let n : size ≡ 0 = h.0 ∙ ap (λ (k : ℕ). nodes * k) z ∙ mul-zero nodes in (
          ap (λ (k : ℕ). lacks_sources size k nodes) z ∙ (lacks-none_off size nodes).1 (n, h.1 z),
          (none_broken size sources z, (none_differ size sources nodes z, tt)),
        )
    clear (inr s) h = (
      lacks-some size sources s nodes,
      (whole_off size sources s (nodes, h.0), (differ_some size sources s nodes ∙ (differ_off nodes (size / sources)).1 (rows_of size sources s nodes h.0), tt)),
    )

-- ---- a node below the row count
no_row : (size sources node : ℕ) → sources ≡ 0 → node < row_count size sources → ⊥
unfolding row_count
no_row size sources node z e = let w : node < 0 = rw z at e in not-suc-le-zero w

row-there : (size sources node : ℕ) → (sources ≡ 0 → ⊥) → Multiple size sources → node * sources < size → node < row_count size sources
unfolding row_count
row-there size sources node h q l =
    let e = whole size sources (not_none size sources h) (whole_off size sources h q) in
    rw (not_none size sources h) (lt_of_mul-lt-mul_right sources (subst (λ (k : ℕ). node * sources < k) e l))

starts_within : (size sources node : ℕ) → (sources ≡ 0 → ⊥) → broken_rows size sources ≡ false → node < row_count size sources → node * sources < size
unfolding row_count
starts_within size sources node h f e =
    let w : node < size / sources = rw (not_none size sources h) at e in
    omega (arith, row_end (size / sources) sources node w, whole size sources (not_none size sources h) f, pos_of_ne-zero h)

ends_before : (size sources node : ℕ) → (sources ≡ 0 → ⊥) → broken_rows size sources ≡ false → row_count size sources ≤ node → size ≤ node * sources
unfolding row_count
ends_before size sources node h f e =
    let w : size / sources ≤ node = rw (not_none size sources h) at e in
    subst (λ (k : ℕ). k ≤ node * sources) (sym (whole size sources (not_none size sources h) f)) (mul-le-mul_right sources w)

no_rows : (size sources node : ℕ) → sources ≡ 0 → leb (row_count size sources) node ≡ true
unfolding row_count
no_rows size sources node z = rw z (le-leb 0 node (omega arith))

-- ---- 8, 9, 13
pub map-row_numbered : (size sources node : ℕ) → MapRowNumbered size sources node (map_row_refusal size sources node)
unfolding map_row_refusal row_count
map-row_numbered size sources node =
    let c8 = check coefficients (lacks_sources size sources 0) in
    let c9 = check map_length (broken_rows size sources) in
    let c13 = check no_such_node (leb (row_count size sources) node) in
    let w8 = applies-first [] 8 c8.applies (c9 ∷ c13 ∷ []) tt tt tt in
    let w9 = applies-first (c8 ∷ []) 9 c9.applies (c13 ∷ []) tt tt tt in
    let w13 = applies-first (c8 ∷ c9 ∷ []) 13 c13.applies [] tt tt tt in
    let w0 = none-applies (c8 ∷ c9 ∷ c13 ∷ []) tt in
    let l = lacks_on size sources 0 in
    let b = broken_exactly size sources in
    record {
      is_8 = (λ e. let v = l.0 (w8.0 e).1 in (v.0, λ z. v.1 (z, refl)), λ h. w8.1 (tt, l.1 (h.0, λ p. h.1 p.0)));
      is_9 = (λ e. b.0 (w9.0 e).1, λ h. w9.1 ((lacks-some size sources h.0 0, tt), b.1 h));
      is_13 = (
        (λ e. let v = w13.0 e in past (sources_or sources) v.0.0 v.0.1.0 (leb-true (row_count size sources) node v.1)),
        λ h. w13.1 (none-there h),
      );
      is_0 = (
        (λ e. let v = w0.0 e in there (sources_or sources) v.1.0 (leb-false (row_count size sources) node v.1.1.0)),
        λ h. w0.1 (lacks-some size sources h.0 0, (whole_off size sources h.0 h.1, (lt-leb (row_count size sources) node (below h), tt))),
      );
    }
  where
    there : (sources ≡ 0) ⊎ (sources ≡ 0 → ⊥) → broken_rows size sources ≡ false → node < row_count size sources
        → (sources ≡ 0 → ⊥) × Multiple size sources × (node * sources < size)
    there (inl z) f e = absurd (no_row size sources node z e)
    there (inr h) f e = (h, rows_whole size sources h f, starts_within size sources node h f e)

    below : (sources ≡ 0 → ⊥) × Multiple size sources × (node * sources < size) → node < row_count size sources
    below h = row-there size sources node h.0 h.1 h.2

    past : (sources ≡ 0) ⊎ (sources ≡ 0 → ⊥) → lacks_sources size sources 0 ≡ false → broken_rows size sources ≡ false → row_count size sources ≤ node
        → ((sources ≡ 0) × (size ≡ 0)) ⊎ ((sources ≡ 0 → ⊥) × Multiple size sources × (size ≤ node * sources))
    past (inl z) l f e = inl (z, (lacks_off size sources 0 l z).0)
    past (inr h) l f e = inr (h, rows_whole size sources h f, ends_before size sources node h f e)

    none-there : ((sources ≡ 0) × (size ≡ 0)) ⊎ ((sources ≡ 0 → ⊥) × Multiple size sources × (size ≤ node * sources))
        → ((lacks_sources size sources 0 ≡ false) × ((broken_rows size sources ≡ false) × Unit {0})) × (leb (row_count size sources) node ≡ true)
    none-there (inl h) =
        let l = ap (λ (k : ℕ). lacks_sources size k 0) h.0 ∙ (lacks-none_off size 0).1 (h.1, refl) in
        ((l, (none_broken size sources h.0, tt)), no_rows size sources node h.0)
    none-there (inr h) = (
      (lacks-some size sources h.0 0, (whole_off size sources h.0 h.1, tt)),
      go (leb (row_count size sources) node) refl,
    )
      where
        go : (t : Bool) → leb (row_count size sources) node ≡ t → leb (row_count size sources) node ≡ true
        go true e = e
        go false e =
            absurd (not-le_of_lt (starts_within size sources node h.0 (whole_off size sources h.0 h.1) (leb-false (row_count size sources) node e)) h.2)

-- A row is empty exactly on a refusal: a row that is given has as many numbers as there are nodes or sources, and there is one at least.
row_empty : (r : ℕ) (m : List Float) (w i : ℕ)
    → (r ≡ 0 → i * w + w ≤ length m) → (r ≡ 0 → 0 < w) → (row_after r (stretch m w i) ≡ []) ↔ (r ≡ 0 → ⊥)
unfolding row_after
row_empty r m w i fits some = (
  (λ e z.
      let f : stretch m w i ≡ [] = rw z at e in
      let n : 0 ≡ w = sym (ap (λ (l : List Float). length l) f) ∙ stretch-long m w i (fits z) in
      omega (arith, some z, n)),
  λ h. rw (ne_eqb r 0 h),
)

pub matrix-row_empty : (m : List Float) (n node : ℕ) → (matrix_row m n node ≡ []) ↔ (matrix_row_refusal (length m) n node ≡ 0 → ⊥)
matrix-row_empty m n node =
    let r = matrix_row_refusal (length m) n node in
    row_empty r m n node (λ z. matrix-row-sized (length m) n node (sym z)) (λ z. omega (arith, ((matrix-row_numbered (length m) n node).is_0.0 z).2))

pub map-row_empty : (m : List Float) (sources node : ℕ) → (map_row m sources node ≡ []) ↔ (map_row_refusal (length m) sources node ≡ 0 → ⊥)
map-row_empty m sources node =
    let r = map_row_refusal (length m) sources node in
    row_empty r m sources node (λ z. map-row-sized (length m) sources node (sym z)) (λ z. pos_of_ne-zero ((map-row_numbered (length m) sources node).is_0.0 z).0)
