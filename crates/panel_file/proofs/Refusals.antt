-- The number of a file: each test is its condition (`marks_off`, `limits_off`, `due_off`, and the mesh's), and `applies-first`, the law of any list of checks, puts them in order.
-- The five of the file are shown with any checks behind them, so for the reader and for a program that reads more behind the panels. Assumes nothing.
use mathlib.Core.Path.{◌≡◌, sym, ◌∙◌}
use mathlib.Core.Logic.{◌↔◌}
use mathlib.Core.List.{List, [], ◌∷◌, ◌++◌}
use Prim.Native.Nat.{ℕ}
use lib.Dec.{T}
use Rattle.refusal.specs.Checks.{Check, check, first, Clear, lacks}
use Rattle.refusal.specs.Numbers.{output_length}
use Rattle.refusal.proofs.Checks.{none-applies, applies-first, clear_parts}
use Rattle.mesh.specs.Conditions.{Accepted}
use Rattle.lists.proofs.Filling.{tabulate-length}
use Rattle.mesh.specs.Mesh.{some_misses_node, some_zero_area, passes_limits}
use Rattle.refusal.proofs.Tests.{on}
use Rattle.mesh.proofs.Refusals.{missing_off, missing_on, area_off, area_on}
use Rattle.panel_file.specs.PanelFile.{node_count, panel_count, coordinate, index, decode, marks_differ, length_differs, file_checks, file_refusal, Lengths, mesh_columns_differ, read_refusal}
use Rattle.panel_file.specs.Conditions.{MeshColumnsDue, AcceptedFile, FileNumbered, FileTestNumbered}
use Rattle.panel_file.proofs.Decoded.{nodes, panels}
use Rattle.panel_file.proofs.Accepted.{marks_off, limits_off, due_off, mesh-columns_off}

module _ (n p extra : ℕ) (b : List ℕ) where
  abbrev pub c14 : Check
  c14 = check 14 (marks_differ b)

  abbrev pub c11 : Check
  c11 = check 11 (passes_limits n p (node_count b) (panel_count b))

  abbrev pub c15 : Check
  c15 = check 15 (length_differs extra b)

  abbrev pub c3 : Check
  c3 = check 3 (some_misses_node (decode b))

  abbrev pub c4 : Check
  c4 = check 4 (some_zero_area (decode b))

  pub file_numbered : (ds : List Check) → T (lacks 14 ds) → T (lacks 11 ds) → T (lacks 15 ds) → T (lacks 3 ds) → T (lacks 4 ds) → FileNumbered n p extra b (first (file_checks n p extra b ++ ds))
  unfolding file_checks
  file_numbered ds l14 l11 l15 l3 l4 =
      let a = marks_off b in
      let l = limits_off n p b in
      let u = due_off extra b in
      let d = missing_off (decode b) in
      let w14 = applies-first [] 14 c14.applies (c11 ∷ c15 ∷ c3 ∷ c4 ∷ ds) tt tt l14 in
      let w11 = applies-first (c14 ∷ []) 11 c11.applies (c15 ∷ c3 ∷ c4 ∷ ds) tt tt l11 in
      let w15 = applies-first (c14 ∷ c11 ∷ []) 15 c15.applies (c3 ∷ c4 ∷ ds) tt tt l15 in
      let w3 = applies-first (c14 ∷ c11 ∷ c15 ∷ []) 3 c3.applies (c4 ∷ ds) tt tt l3 in
      let w4 = applies-first (c14 ∷ c11 ∷ c15 ∷ c3 ∷ []) 4 c4.applies ds tt tt l4 in
      record {
        is_14 = (λ e. (on _ _ a).0 (w14.0 e).1, λ h. w14.1 (tt, (on _ _ a).1 h));
        is_11 = (λ e. let v = w11.0 e in (a.0 v.0.0, (on _ _ l).0 v.1), λ h. w11.1 ((a.1 h.0, tt), (on _ _ l).1 h.1));
        is_15 = (
          (λ e. let v = w15.0 e in (a.0 v.0.0, l.0 v.0.1.0, (on _ _ u).0 v.1)),
          λ h. w15.1 ((a.1 h.0, (l.1 h.1, tt)), (on _ _ u).1 h.2),
        );
        is_3 = (
          (λ e. let v = w3.0 e in (a.0 v.0.0, l.0 v.0.1.0, u.0 v.0.1.1.0, (missing_on (decode b)).0 v.1)),
          λ h. w3.1 ((a.1 h.0, (l.1 h.1, (u.1 h.2, tt))), (missing_on (decode b)).1 h.3),
        );
        is_4 = (
          (λ e. let v = w4.0 e in (a.0 v.0.0, l.0 v.0.1.0, u.0 v.0.1.1.0, d.0 v.0.1.1.1.0, (area_on (decode b)).0 v.1)),
          λ h. w4.1 ((a.1 h.0, (l.1 h.1, (u.1 h.2, (d.1 h.3, tt)))), (area_on (decode b)).1 h.4),
        );
      }

  pub accepted : Clear (c14 ∷ c11 ∷ c15 ∷ c3 ∷ c4 ∷ []) → AcceptedFile n p extra b
  accepted v =
      record {
        marked = (marks_off b).0 v.0;
        limits = (limits_off n p b).0 v.1.0;
        long = (due_off extra b).0 v.1.1.0;
        none_missing = (missing_off (decode b)).0 v.1.1.1.0;
        no_zero_area = (area_off (decode b)).0 v.1.1.1.1.0;
      }

  pub cleared : AcceptedFile n p extra b → Clear (c14 ∷ c11 ∷ c15 ∷ c3 ∷ c4 ∷ [])
  cleared h = ((marks_off b).1 h.marked, ((limits_off n p b).1 h.limits, ((due_off extra b).1 h.long, ((missing_off (decode b)).1 h.none_missing, ((area_off (decode b)).1 h.no_zero_area, tt)))))

  -- a file that is not refused holds an accepted mesh
  pub accepted-mesh : AcceptedFile n p extra b → Accepted n p (decode b)
  accepted-mesh h =
      record {
        nodes_alike = record { ys_long = tabulate-length (node_count b) (coordinate b 1) ∙ sym (nodes b); zs_long = tabulate-length (node_count b) (coordinate b 2) ∙ sym (nodes b) };
        panels_alike = record { t1_long = tabulate-length (panel_count b) (index b (node_count b) 1) ∙ sym (panels b); t2_long = tabulate-length (panel_count b) (index b (node_count b) 2) ∙ sym (panels b) };
        limits = h.limits;
        none_missing = h.none_missing;
        no_zero_area = h.no_zero_area;
      }

  -- a call that tests nothing more
  pub file-accepted : (file_refusal n p extra b ≡ 0) ↔ AcceptedFile n p extra b
  unfolding file_refusal file_checks
  file-accepted =
      let w = none-applies (c14 ∷ c11 ∷ c15 ∷ c3 ∷ c4 ∷ []) tt in
      (λ e. accepted (w.0 e), λ h. w.1 (cleared h))

-- a call that tests the file and nothing more: a list with nothing behind it
pub file_test_numbered : (n p extra : ℕ) (b : List ℕ) → FileTestNumbered n p extra b (file_refusal n p extra b)
unfolding file_refusal file_checks
file_test_numbered n p extra b = record { file = file_numbered n p extra b [] tt tt tt tt tt; is_0 = file-accepted n p extra b }

-- the reader's call: nothing of the file's and columns of its counts
pub read-accepted : (n p : ℕ) (b : List ℕ) (l : Lengths) → (read_refusal n p b l ≡ 0) ↔ (AcceptedFile n p 0 b × MeshColumnsDue b l)
unfolding read_refusal file_checks
read-accepted n p b l =
    let file = c14 n p 0 b ∷ c11 n p 0 b ∷ c15 n p 0 b ∷ c3 n p 0 b ∷ c4 n p 0 b ∷ [] in
    let columns = check output_length (mesh_columns_differ b l) ∷ [] in
    let w = none-applies (file ++ columns) tt in
    let parts = clear_parts file columns in
    let o = mesh-columns_off b l in (
      (λ e. let v = parts.0 (w.0 e) in (accepted n p 0 b v.0, o.0 v.1.0)),
      λ h. w.1 (parts.1 (cleared n p 0 b h.0, (o.1 h.1, tt))),
    )
