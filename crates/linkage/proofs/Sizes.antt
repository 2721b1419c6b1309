-- What a call that is done has: a matrix of n × n numbers for few nodes, a map of a row for each node. Then every row ends within the numbers.
use mathlib.Core.Path.{◌≡◌, refl, sym, ap, ◌∙◌, subst}
use mathlib.Core.Bool.{Bool, true, false, not, ◌&&◌, true≢false}
use mathlib.Core.List.{◌∷◌, ◌++◌}
use Prim.Native.Nat.{ℕ, ◌+◌, ◌*◌, ◌/◌, ◌%◌, ◌≤◌}
use native.Mathlib.Nat.{mul-zero, add-zero, not-suc-le-zero, div-add-mod'}
use borrow.Author.Tests.{eqb-true, eq-eqb, leb-false}
use lib.Dec.{eqb}
use Rattle.refusal.specs.Numbers.{nodal_values}
use Rattle.refusal.specs.Checks.{check, first, Clear}
use Rattle.refusal.proofs.Checks.{none-applies, first-passed, first_stopped}
use Rattle.refusal.proofs.Tests.{or_off, differ_off}
use Rattle.lists.proofs.Stretches.{row_end}
use Rattle.linkage.specs.Energy.{matrix_checks, energy_refusal, vectors_refusal}
use Rattle.linkage.specs.Flux.{lacks_sources, broken_rows, rows_differ, map_checks, map_refusal}
use Rattle.linkage.specs.Row.{node_checks, matrix_row_refusal, row_count, map_row_checks, map_row_refusal}

and_off : (a b : Bool) → a ≡ true → (a && b) ≡ false → b ≡ false
and_off true b e h = h
and_off false b e h = absurd (true≢false (sym e))

-- ---- a matrix
pub vectors_sized : (n t size : ℕ) → 0 ≡ vectors_refusal n t size → (t ≡ n) × (size ≡ n * n)
unfolding vectors_refusal
vectors_sized n t size z =
    let w = (none-applies (check nodal_values (not (eqb t n)) ∷ matrix_checks n size) tt).0 (sym z) in
    ((differ_off t n).0 w.0, (differ_off size (n * n)).0 w.1.1.0)

-- one vector does not differ from itself
pub one-vector : (n size : ℕ) → vectors_refusal n n size ≡ energy_refusal n size
unfolding vectors_refusal energy_refusal first
one-vector n size = rw (eq-eqb n n refl)

pub matrix-row-sized : (size n node : ℕ) → 0 ≡ matrix_row_refusal size n node → node * n + n ≤ size
unfolding matrix_row_refusal
matrix-row-sized size n node z =
    let w = (none-applies (matrix_checks n size ++ node_checks n node) tt).0 (sym z) in
    rw ((differ_off size (n * n)).0 w.1.0) (row_end n n node (leb-false n node w.1.1.0))

-- the matrix's number stops the call for a row, or the node decides
pub row_stopped : (size n node r : ℕ) → r ≡ energy_refusal n size → (r ≡ 0 → ⊥) → r ≡ matrix_row_refusal size n node
unfolding energy_refusal matrix_row_refusal
row_stopped size n node r e h = e ∙ sym (first_stopped (matrix_checks n size) (node_checks n node) (λ z. h (e ∙ z)))

pub row-passed : (size n node : ℕ) → 0 ≡ energy_refusal n size → matrix_row_refusal size n node ≡ first (node_checks n node)
unfolding energy_refusal matrix_row_refusal
row-passed size n node z = first-passed (matrix_checks n size) (node_checks n node) ((none-applies (matrix_checks n size) tt).0 (sym z))

-- ---- a map: whole rows, by cases on whether there are sources
pub whole : (size sources : ℕ) → eqb sources 0 ≡ false → broken_rows size sources ≡ false → size ≡ size / sources * sources
unfolding broken_rows
whole size sources c h =
    let z : size % sources ≡ 0 = (differ_off (size % sources) 0).0 (and_off (not (eqb sources 0)) _ (rw c refl) h) in
    sym (rw z at (div-add-mod' size sources)) ∙ add-zero _

pub map-sized : (size sources nodes : ℕ) → 0 ≡ map_refusal size sources nodes → size ≡ nodes * sources
unfolding map_refusal lacks_sources rows_differ
map-sized size sources nodes z = go (eqb sources 0) refl
  where
    w : Clear (map_checks size sources nodes)
    w = (none-applies (map_checks size sources nodes) tt).0 (sym z)

    go : (t : Bool) → eqb sources 0 ≡ t → size ≡ nodes * sources
    go true c =
        let o = or_off _ _ (and_off (eqb sources 0) _ c w.0) in
        (differ_off size 0).0 o.0 ∙ sym (ap (λ (k : ℕ). nodes * k) (eqb-true sources 0 c) ∙ mul-zero nodes)
    go false c =
        let d = (differ_off nodes (size / sources)).0 (and_off (not (eqb sources 0)) _ (rw c refl) w.1.1.0) in
        whole size sources c w.1.0 ∙ ap (λ (k : ℕ). k * sources) (sym d)

pub map-row-sized : (size sources node : ℕ) → 0 ≡ map_row_refusal size sources node → node * sources + sources ≤ size
unfolding map_row_refusal row_count
map-row-sized size sources node z = go (eqb sources 0) refl
  where
    w : Clear (map_row_checks size sources node)
    w = (none-applies (map_row_checks size sources node) tt).0 (sym z)

    go : (t : Bool) → eqb sources 0 ≡ t → node * sources + sources ≤ size
    go true c = absurd (not-suc-le-zero (leb-false 0 node (rw c at w.1.1.0)))
    go false c =
        subst (λ (k : ℕ). node * sources + sources ≤ k) (sym (whole size sources c w.1.0)) (row_end (size / sources) sources node (leb-false (size / sources) node (rw c at w.1.1.0)))
