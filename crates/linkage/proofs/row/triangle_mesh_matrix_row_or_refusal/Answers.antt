-- The matrix's number stops the call, or the node decides; behind both the row ends within the matrix.
use mathlib.Core.Path.{◌≡◌, sym, ◌∙◌}
use Prim.Native.Nat.{ℕ, ◌<◌}
use borrow.Author.Tests.{le-leb, lt-leb}
use lib.ListN.{length}
use Rattle.std.proofs.lemmas.Result.{err_from_is_err_and}
use Rattle.refusal.proofs.Outcome.{never_0}
use Rattle.refusal.specs.Checks.{first}
use Rattle.refusal.specs.declared.Refusal.TheVariants.{NoSuchNode}
use Rattle.linkage.specs.Energy.{energy_refusal}
use Rattle.linkage.specs.Row.{matrix_row_refusal}
use Rattle.linkage.proofs.Sums.{row_refused, row_done}
use Rattle.linkage.proofs.Sizes.{matrix-row-sized, row_stopped, row-passed}
use Rattle.linkage.proofs.row.triangle_mesh_matrix_row_or_refusal.Goals as goal

pub returns-in_err-check_energy : goal.returns-in_err-check_energy
returns-in_err-check_energy c =
    let a = c.args in
    let p = err_from_is_err_and c.from_residual.result c.from_residual.ensures.1 in
    let e = row_stopped (length a.matrix.now) a.n a.node _ c.in_err-check_energy.ensures (never_0 _) in
    rw (p.1, p.2) (record { number = e; row = row_refused _ _ e })

pub returns-then-n-node : goal.returns-then-n-node
unfolding first
returns-then-n-node c =
    let a = c.args in
    let e : 13 ≡ matrix_row_refusal (length a.matrix.now) a.n a.node = rw (row-passed (length a.matrix.now) a.n a.node c.in_ok-check_energy.ensures, le-leb _ _ c.if-n-node.true) in
    record { number = e; row = row_refused NoSuchNode _ e }

-- behind both checks
done : (size n node : ℕ) → 0 ≡ energy_refusal n size → node < n → 0 ≡ matrix_row_refusal size n node
unfolding first
done size n node e l = rw (row-passed size n node e, lt-leb n node l)

pub stretch-requires : goal.stretch-requires
stretch-requires c =
    let a = c.args in matrix-row-sized (length a.matrix.now) a.n a.node (done _ _ _ c.in_ok-check_energy.ensures c.if-n-node.false)

pub returns : goal.returns
returns c =
    let a = c.args in
    let e = done (length a.matrix.now) a.n a.node c.in_ok-check_energy.ensures c.if-n-node.false in
    record { number = e; row = c.stretch.ensures ∙ sym (row_done _ e) }
