-- A call that is done meets what the assembly's functions ask, and with every node marked the renewed matrix is the fresh one.
use mathlib.Core.Path.{◌≡◌, refl, sym, ◌∙◌, subst}
use mathlib.Core.Bool.{Bool, true, false}
use mathlib.Core.List.{List}
use Prim.Native.Nat.{ℕ, ◌*◌, ◌≤◌}
use native.Mathlib.Nat.{lt_of_lt_of_le}
use borrow.Author.Tests.{eqb-true, not-false}
use lib.ListN.{length, replicate, length-replicate, get_or-replicate}
use lib.Ieee.{Float}
use Rattle.tri.specs.declared.quadrature.QuadratureKind.{QuadratureKind}
use Rattle.refusal.proofs.Checks.{after-done}
use Rattle.mesh.specs.Mesh.{Mesh, nnode, max_nodes, max_panels}
use Rattle.mesh.proofs.Refusals.{mesh-accepted}
use Rattle.scatter.specs.Entries.{square}
use Rattle.scatter.specs.Renewal.{marked, renewed}
use Rattle.scatter.proofs.Renewals.{renewed_whole}
use Rattle.coupling.specs.Block.{mutual_inductance_block}
use Rattle.pair_loops.specs.Ready.{Ready}
use Rattle.inductance.specs.Matrix.{cell, matrix}
use Rattle.inductance.specs.Assembly.{AssembledUnder, size_checks, sized_refusal}
use Rattle.inductance.proofs.Mirror.{left-symmetric}

-- every node is marked
abbrev pub all_marks : List Bool
all_marks = replicate max_nodes true

-- a call that is done
module _ (m : Mesh) (out : List Float) (e : 0 ≡ sized_refusal m (length out)) where
  pub ready : Ready m out all_marks
  unfolding sized_refusal
  ready =
      let w = mesh-accepted max_nodes max_panels m (size_checks (nnode m) (length out)) tt (sym e) in
      let a = w.0 in
      record {
        nodes_alike = a.nodes_alike;
        panels_alike = a.panels_alike;
        few_panels = a.limits.few_panels;
        none_missing = a.none_missing;
        sized = record {
          small = a.limits.few_nodes;
          cells = eqb-true (length out) (nnode m * nnode m) (not-false _ w.1.0);
          enough = subst (λ (k : ℕ). nnode m ≤ k) (sym (length-replicate max_nodes true)) a.limits.few_nodes;
        };
      }

  -- with every node marked the renewed matrix is the fresh one
  pub assembled : (kind : QuadratureKind) {new : List Float}
      → new ≡ renewed (marked all_marks) (cell (mutual_inductance_block kind) m) (nnode m) out → AssembledUnder kind m out 0 new
  unfolding matrix
  assembled kind h =
      let g = cell (mutual_inductance_block kind) m in
      let f = renewed_whole (marked all_marks) g (nnode m) out (λ k l. get_or-replicate max_nodes k true false (lt_of_lt_of_le l ready.sized.small)) in
      let c = h ∙ f ∙ sym (after-done 0 (square (nnode m) g) out refl) in
      record { refusal = e; cells = c; symmetric = left-symmetric (mutual_inductance_block kind) m out 0 _ c }
