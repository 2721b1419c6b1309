-- What each test that is off says of a file: a header is there, the length is due, nodes and panels stand within it. Assumes nothing.
use mathlib.Core.Path.{◌≡◌, sym, ap, ◌∙◌}
use mathlib.Core.Logic.{◌↔◌}
use mathlib.Core.Bool.{false, not}
use mathlib.Core.List.{List, [], ◌∷◌}
use Prim.Native.Nat.{ℕ, ◌^◌, ◌<◌}
use native.Mathlib.Omega.{arith}
use borrow.Author.Tests.{ltb-false, le-ltb, eq-eqb, eqb-true, not-false}
use lib.Dec.{ltb, eqb}
use lib.ListN.{length, get_or}
use Rattle.refusal.specs.Numbers.{output_length}
use Rattle.refusal.specs.Checks.{check, first}
use Rattle.refusal.specs.Outcome.{number}
use Rattle.refusal.specs.declared.Refusal.{Refusal}
use Rattle.refusal.proofs.Outcome.{never_0}
use Rattle.refusal.proofs.Checks.{none-applies, first_stopped, first-passed}
use Rattle.mesh.specs.Conditions.{WithinLimits}
use Rattle.mesh.specs.Mesh.{nnode, ntri, passes_limits, some_misses_node, some_zero_area}
use Rattle.refusal.proofs.Tests.{or_off, differ_off}
use Rattle.lists.proofs.Columns.{columns_off}
use Rattle.mesh.proofs.Refusals.{limits_off as mesh-limits}
use Rattle.panel_file.specs.Conditions.{Marked, LengthDue, MeshColumnsDue}
use Rattle.panel_file.proofs.Decoded.{nodes, panels}
use Rattle.panel_file.specs.LittleEndian.{little_endian}
use Rattle.panel_file.specs.PanelFile.{version, header, length_due, node_count, panel_count, decode, marks_differ, length_differs, file_checks, file_refusal, Lengths, mesh_columns_differ, read_refusal, Holds}

pub marked : (b : List ℕ) → marks_differ b ≡ false → Marked b
unfolding marks_differ
marked b e =
    let o = or_off (ltb (length b) header) _ e in
    let o0 = or_off (not (eqb (get_or b 0 0) 80)) _ o.1 in
    let o1 = or_off (not (eqb (get_or b 1 0) 78)) _ o0.1 in
    let o2 = or_off (not (eqb (get_or b 2 0) 76)) (not (eqb (little_endian 2 b 3) version)) o1.1 in
    record { room = ltb-false (length b) header o.0; P = (differ_off _ _).0 o0.0; N = (differ_off _ _).0 o1.0; L = (differ_off _ _).0 o2.0; versioned = (differ_off _ _).0 o2.1 }

pub marks_off : (b : List ℕ) → (marks_differ b ≡ false) ↔ Marked b
unfolding marks_differ
marks_off b = (marked b, λ h. rw (le-ltb (length b) header h.room, (differ_off _ _).1 h.P, (differ_off _ _).1 h.N, (differ_off _ _).1 h.L, (differ_off _ _).1 h.versioned))

pub limits_off : (n p : ℕ) (b : List ℕ) → (passes_limits n p (node_count b) (panel_count b) ≡ false) ↔ WithinLimits n p (decode b)
limits_off n p b =
    let w = mesh-limits n p (decode b) in
    let e : passes_limits n p (node_count b) (panel_count b) ≡ passes_limits n p (nnode (decode b)) (ntri (decode b)) = (λ i. passes_limits n p (sym (nodes b) i) (sym (panels b) i)) in
    (λ h. w.0 (sym e ∙ h), λ h. e ∙ w.1 h)

-- the length due, by counts that were read
counted : (extra : ℕ) (b : List ℕ) (n p d : ℕ) → n ≡ node_count b → p ≡ panel_count b → d ≡ length_due extra n p → d ≡ length_due extra (node_count b) (panel_count b)
counted extra b n p d en ep ed = ed ∙ (λ i. length_due extra (en i) (ep i))

pub length_off : (extra : ℕ) (b : List ℕ) (n p d : ℕ) → n ≡ node_count b → p ≡ panel_count b → d ≡ length_due extra n p → length b ≡ d → length_differs extra b ≡ false
unfolding length_differs
length_off extra b n p d en ep ed h =
    let e = counted extra b n p d en ep ed in
    ap not (eq-eqb (length b) _ (h ∙ e))

pub length-due : (extra : ℕ) (b : List ℕ) → length_differs extra b ≡ false → length b ≡ length_due extra (node_count b) (panel_count b)
unfolding length_differs
length-due extra b e = eqb-true (length b) _ (not-false _ e)

pub due_off : (extra : ℕ) (b : List ℕ) → (length_differs extra b ≡ false) ↔ LengthDue extra b
unfolding length_differs
due_off extra b = (length-due extra b, λ h. (differ_off _ _).1 h)

pub holds : (extra : ℕ) (b : List ℕ) (n p : ℕ) → n ≡ node_count b → p ≡ panel_count b → n < 2 ^ 16 → p < 2 ^ 16 → length_differs extra b ≡ false → Holds n b
unfolding length_due
holds extra b n p en ep ln lp e =
    record { nodes = en; few_nodes = ln; few_panels = omega arith; long = omega (arith, length-due extra b e) }

-- ---- a file that was not refused
pub record Clean (max_nodes max_panels extra : ℕ) (b : List ℕ) : Type 0 where
  pub marks : marks_differ b ≡ false
  pub limits : passes_limits max_nodes max_panels (node_count b) (panel_count b) ≡ false
  pub long : length_differs extra b ≡ false
  pub present : some_misses_node (decode b) ≡ false
  pub areas : some_zero_area (decode b) ≡ false

pub clean : (max_nodes max_panels extra : ℕ) (b : List ℕ) → file_refusal max_nodes max_panels extra b ≡ 0 → Clean max_nodes max_panels extra b
unfolding file_refusal file_checks
clean n p extra b e =
    let v = (none-applies (file_checks n p extra b) tt).0 e in
    record { marks = v.0; limits = v.1.0; long = v.1.1.0; present = v.1.1.1.0; areas = v.1.1.1.1.0 }

-- ---- the reader's call: the file's number stops it, or the columns decide
pub file_stopped : (n p : ℕ) (b : List ℕ) (l : Lengths) (r : Refusal) → number r ≡ file_refusal n p 0 b → number r ≡ read_refusal n p b l
unfolding file_refusal read_refusal
file_stopped n p b l r e = e ∙ sym (first_stopped (file_checks n p 0 b) _ (λ z. never_0 r (e ∙ z)))

pub file-passed : (n p : ℕ) (b : List ℕ) (l : Lengths) → 0 ≡ file_refusal n p 0 b → read_refusal n p b l ≡ first (check output_length (mesh_columns_differ b l) ∷ [])
unfolding file_refusal file_checks read_refusal
file-passed n p b l e = first-passed (file_checks n p 0 b) _ ((none-applies (file_checks n p 0 b) tt).0 (sym e))

pub mesh-columns_off : (b : List ℕ) (l : Lengths) → (mesh_columns_differ b l ≡ false) ↔ MeshColumnsDue b l
mesh-columns_off b l =
    let n = columns_off (node_count b) l.x l.y l.z in
    let p = columns_off (panel_count b) l.t0 l.t1 l.t2 in
    (λ e. let o = or_off _ _ e in record { nodes = n.0 o.0; panels = p.0 o.1 }, λ h. rw (n.1 h.nodes, p.1 h.panels))
