-- The call's number by its conditions: 12 stands before the mesh's checks and 6 behind them, and the laws of a call that tests its mesh do the rest. The matrix's cells on and above the diagonal
-- are the Rust's.
use mathlib.Core.Path.{◌≡◌, ◌∙◌}
use mathlib.Core.Bool.{not}
use mathlib.Core.List.{[]}
use Prim.Native.Nat.{ℕ, ◌+◌, ◌*◌, ◌<◌, ◌≤◌}
use native.Mathlib.Nat.{lt_of_le_of_lt}
use borrow.Author.Tests.{le-leb}
use lib.Dec.{eqb}
use Rattle.binary64.specs.Binary64.{at}
use Rattle.tri.specs.Quadrature.{quadrature_rule, NoSuchRule}
use Rattle.refusal.specs.Numbers.{no_such_choice, output_length}
use Rattle.refusal.proofs.Checks.{applies-first}
use Rattle.mesh.specs.Mesh.{Mesh, nnode, max_nodes, max_panels}
use Rattle.refusal.proofs.Tests.{on, differ_off}
use Rattle.mesh.proofs.Calls.{call_before, call_behind, call_area, call_done, call_of_mesh, rule_checks, rule_passed, rule_stopped}
use Rattle.scatter.proofs.Mirror.{at_cell}
use Rattle.pair_loops.specs.Additions.{Block}
use Rattle.inductance.specs.Matrix.{summed_cell, cell, matrix}
use Rattle.inductance.specs.Assembly.{size_checks, matrix_refusal, Numbered}

pub call_numbered : (number : ℕ) (m : Mesh) (size : ℕ) → Numbered number m size (matrix_refusal (quadrature_rule number) m size)
unfolding matrix_refusal
call_numbered number m size =
    let pre = rule_checks number in
    let post = size_checks (nnode m) size in
    let Before : Type 0 = NoSuchRule number → ⊥ in
    let passed = rule_passed number in
    let differs = not (eqb size (nnode m * nnode m)) in
    let w12 = call_before max_nodes max_panels m pre post Before passed no_such_choice tt tt tt in
    let w6 = call_behind max_nodes max_panels m pre post Before passed output_length tt tt tt in
    let w0 = call_done max_nodes max_panels m pre post Before passed tt tt in
    let own = applies-first [] output_length differs [] tt tt tt in
    let off = differ_off size (nnode m * nnode m) in
    let past = on differs (size ≡ nnode m * nnode m) off in
    record {
      is_12 = (λ e. (rule_stopped number).0 (w12.0 e), λ h. w12.1 ((rule_stopped number).1 h));
      mesh = call_of_mesh max_nodes max_panels m pre post Before passed tt tt;
      is_4 = call_area max_nodes max_panels m pre post Before passed tt tt;
      is_6 = (λ e. let v = w6.0 e in (v.0, v.1, past.0 (own.0 v.2).1), λ h. w6.1 (h.0, h.1, own.1 (tt, past.1 h.2)));
      is_0 = (λ e. let v = w0.0 e in (v.0, v.1, off.0 v.2.0), λ h. w0.1 (h.0, h.1, (off.1 h.2, tt)));
    }

pub matrix-above : (f : Block) (m : Mesh) (a b : ℕ) → a ≤ b → b < nnode m → at (matrix f m) (a * nnode m + b) ≡ summed_cell f m a b
unfolding matrix cell
matrix-above f m a b l h = at_cell (nnode m) (cell f m) a b (lt_of_le_of_lt l h) h ∙ rw (le-leb a b l)
