-- The mesh's number stops the call, or the output's size decides.
use mathlib.Core.Path.{◌≡◌, sym, ◌∙◌}
use Prim.Native.Nat.{ℕ}
use borrow.Author.Tests.{ne_eqb, eq-eqb}
use native.Mathlib.Omega.{arith}
use Rattle.std.proofs.lemmas.Result.{err_from_is_err_and}
use Rattle.refusal.specs.Checks.{first}
use Rattle.mesh.specs.Columns.{viewed}
use Rattle.mesh.specs.Mesh.{Mesh, nnode, ntri}
use Rattle.mesh.proofs.Refusals.{refused_by, done_passed, done_accepted}
use Rattle.panel_file.specs.PanelFile.{length_due}
use Rattle.panel_file_write.specs.Write.{file_size, size_checks, write_refusal}
use Rattle.panel_file_write.proofs.check_write.Goals as goal

pub returns-in_err-check_mesh_within : goal.returns-in_err-check_mesh_within
unfolding write_refusal
returns-in_err-check_mesh_within c = let p = err_from_is_err_and c.from_residual.result c.from_residual.ensures.1 in rw (p.1, p.2) (refused_by _ _ _ _ _ c.in_err-check_mesh_within.ensures)

pub length_due-requires : goal.length_due-requires
length_due-requires c =
    let l = (done_accepted _ _ (viewed c.args.mesh.now) c.in_ok-check_mesh_within.ensures).limits in
    let s = c.requires in
    (omega arith, omega (arith, l.few_nodes, s.0, c.nnode.ensures), omega (arith, l.few_panels, s.1, c.ntri.ensures))

-- the size that the code tests is the file's
due : (m : Mesh) {n p d : ℕ} → n ≡ nnode m → p ≡ ntri m → d ≡ length_due 0 n p → d ≡ file_size m
due m e f h = h ∙ (λ i. length_due 0 (e i) (f i))

pub returns-then-size-length_due : goal.returns-then-size-length_due
unfolding first write_refusal
returns-then-size-length_due c =
    let m = viewed c.args.mesh.now in
    let s = c.args.size in
    let d = due m c.nnode.ensures c.ntri.ensures c.length_due.ensures in
    rw (done_passed _ _ m (size_checks m s) c.in_ok-check_mesh_within.ensures, ne_eqb s (file_size m) (λ e. c.if-size-length_due.true (e ∙ sym d)))

pub returns : goal.returns
unfolding first write_refusal
returns c =
    let m = viewed c.args.mesh.now in
    let s = c.args.size in
    let d = due m c.nnode.ensures c.ntri.ensures c.length_due.ensures in
    rw (done_passed _ _ m (size_checks m s) c.in_ok-check_mesh_within.ensures, eq-eqb s (file_size m) (c.if-size-length_due.false ∙ d))
