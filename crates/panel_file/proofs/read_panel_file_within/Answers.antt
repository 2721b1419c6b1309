-- A refusal leaves the columns as they were: the file's number stops the call, or the lengths of the columns do. Else each column is of the file's count, and is filled.
use mathlib.Core.Path.{◌≡◌, refl, sym, ap, ◌∙◌}
use mathlib.Core.Bool.{Bool, false, ◌||◌}
use mathlib.Core.List.{List}
use Prim.Native.Nat.{ℕ}
use native.Mathlib.Omega.{arith}
use Rattle.std.proofs.lemmas.Result.{err_from_is_err_and}
use Rattle.refusal.specs.Checks.{first}
use Rattle.refusal.specs.declared.Refusal.TheVariants.{Output}
use Rattle.refusal.proofs.Checks.{after-done}
use Rattle.refusal.proofs.Outcome.{after_refusal}
use Rattle.refusal.proofs.Tests.{or_off}
use Rattle.lists.specs.Columns.{columns_differ, ColumnsDue}
use Rattle.lists.proofs.Columns.{columns_off}
use Rattle.mesh.specs.Mesh.{mesh_of}
use Rattle.panel_file.specs.PanelFile.{node_count, panel_count, decode, Lengths, lengths_of, mesh_columns_differ}
use Rattle.panel_file.proofs.Accepted.{file_stopped, file-passed}
use Rattle.panel_file.proofs.read_panel_file_within.Goals as goal

-- the tests of the columns, by the file's own counts
differ : (b : List ℕ) (l : Lengths) {n p : ℕ} {s t : Bool} → n ≡ node_count b → p ≡ panel_count b → s ≡ columns_differ n l.x l.y l.z → t ≡ columns_differ p l.t0 l.t1 l.t2
    → (s || t) ≡ mesh_columns_differ b l
differ b l n p s t =
    let u = s ∙ ap (λ (k : ℕ). columns_differ k l.x l.y l.z) n in
    let v = t ∙ ap (λ (k : ℕ). columns_differ k l.t0 l.t1 l.t2) p in
    (λ i. u i || v i)

-- columns that pass are of the counts
due : {n p a b c d e f : ℕ} {s t : Bool} → s ≡ columns_differ n a b c → t ≡ columns_differ p d e f → (s || t) ≡ false → ColumnsDue n a b c × ColumnsDue p d e f
due s t h = let o = or_off _ _ h in ((columns_off _ _ _ _).0 (sym s ∙ o.0), (columns_off _ _ _ _).0 (sym t ∙ o.1))

pub returns-in_err-file : goal.returns-in_err-file
returns-in_err-file c =
    let a = c.args in
    let p = err_from_is_err_and c.from_residual.result c.from_residual.ensures.1 in
    rw (p.1, p.2)
    (record {
      number = file_stopped _ _ _ (lengths_of (mesh_of a.x.now a.y.now a.z.now a.t0.now a.t1.now a.t2.now)) _ c.in_err-file.ensures.number;
      x = sym (after_refusal _ _ _);
      y = sym (after_refusal _ _ _);
      z = sym (after_refusal _ _ _);
      t0 = sym (after_refusal _ _ _);
      t1 = sym (after_refusal _ _ _);
      t2 = sym (after_refusal _ _ _);
    })

pub returns-then-n-p : goal.returns-then-n-p
unfolding first
returns-then-n-p c =
    let a = c.args in
    let given = lengths_of (mesh_of a.x.now a.y.now a.z.now a.t0.now a.t1.now a.t2.now) in
    let f = c.in_ok-file in
    let d = differ a.bytes.now given (f.file.holds.nodes ∙ ap node_count f.ensures.file) (f.file.counted ∙ ap panel_count f.ensures.file) c.columns_differ-n.ensures c.columns_differ-p.ensures in
    record {
      number = rw (file-passed _ _ _ given f.ensures.number, ← d, c.if-n-p.true);
      x = sym (after_refusal Output _ _);
      y = sym (after_refusal Output _ _);
      z = sym (after_refusal Output _ _);
      t0 = sym (after_refusal Output _ _);
      t1 = sym (after_refusal Output _ _);
      t2 = sym (after_refusal Output _ _);
    }

pub fill_coordinates-requires : goal.fill_coordinates-requires
fill_coordinates-requires c = (omega arith, (due c.columns_differ-n.ensures c.columns_differ-p.ensures c.if-n-p.false).0.first)

pub fill_coordinates-requires-2 : goal.fill_coordinates-requires-2
fill_coordinates-requires-2 c = (omega arith, (due c.columns_differ-n.ensures c.columns_differ-p.ensures c.if-n-p.false).0.second)

pub fill_coordinates-requires-3 : goal.fill_coordinates-requires-3
fill_coordinates-requires-3 c = (omega arith, (due c.columns_differ-n.ensures c.columns_differ-p.ensures c.if-n-p.false).0.third)

pub fill_indices-requires : goal.fill_indices-requires
fill_indices-requires c = (omega arith, (due c.columns_differ-n.ensures c.columns_differ-p.ensures c.if-n-p.false).1.first)

pub fill_indices-requires-2 : goal.fill_indices-requires-2
fill_indices-requires-2 c = (omega arith, (due c.columns_differ-n.ensures c.columns_differ-p.ensures c.if-n-p.false).1.second)

pub fill_indices-requires-3 : goal.fill_indices-requires-3
fill_indices-requires-3 c = (omega arith, (due c.columns_differ-n.ensures c.columns_differ-p.ensures c.if-n-p.false).1.third)

pub returns : goal.returns
unfolding first
returns c =
    let a = c.args in
    let given = lengths_of (mesh_of a.x.now a.y.now a.z.now a.t0.now a.t1.now a.t2.now) in
    let f = c.in_ok-file in
    let e = f.ensures.file in
    let d = differ a.bytes.now given (f.file.holds.nodes ∙ ap node_count e) (f.file.counted ∙ ap panel_count e) c.columns_differ-n.ensures c.columns_differ-p.ensures in
    record {
      number = rw (file-passed _ _ _ given f.ensures.number, ← d, c.if-n-p.false);
      x = c.fill_coordinates.ensures ∙ ap (λ (b : List ℕ). (decode b).xs) e ∙ sym (after-done 0 _ _ refl);
      y = c.fill_coordinates-2.ensures ∙ ap (λ (b : List ℕ). (decode b).ys) e ∙ sym (after-done 0 _ _ refl);
      z = c.fill_coordinates-3.ensures ∙ ap (λ (b : List ℕ). (decode b).zs) e ∙ sym (after-done 0 _ _ refl);
      t0 = c.fill_indices.ensures ∙ ap (λ (b : List ℕ). (decode b).t0) e ∙ sym (after-done 0 _ _ refl);
      t1 = c.fill_indices-2.ensures ∙ ap (λ (b : List ℕ). (decode b).t1) e ∙ sym (after-done 0 _ _ refl);
      t2 = c.fill_indices-3.ensures ∙ ap (λ (b : List ℕ). (decode b).t2) e ∙ sym (after-done 0 _ _ refl);
    }
