-- The claim of the call by cases: the number stops it and nothing is written, or the move is done; and by cases on the rule, of which there may be none.
use mathlib.Core.Path.{◌≡◌, refl, sym, ap, ◌∙◌, subst}
use mathlib.Core.List.{List}
use Prim.Native.Nat.{ℕ, ◌*◌}
use native.Mathlib.Nat.{suc-ne-zero}
use borrow.Author.Tests.{eqb-true, not-false, leb-false}
use lib.ListN.{length}
use lib.Ieee.{Float}
use Rattle.tri.specs.Quadrature.{quadrature_rule, NoSuchRule}
use Rattle.tri.specs.declared.quadrature.QuadratureKind.{QuadratureKind}
use Rattle.tri.specs.Quadrature.{Rule}
use Rattle.std.specs.Prelude.{Some, None}
use Rattle.tri.proofs.Rules.{rule_on}
use Rattle.refusal.specs.Numbers.{no_such_choice}
use Rattle.refusal.specs.Checks.{first}
use Rattle.mesh.specs.Mesh.{Mesh, nnode, max_nodes, max_panels}
use Rattle.mesh.proofs.Refusals.{mesh-accepted}
use Rattle.pair_loops.specs.Additions.{Block}
use Rattle.scatter.proofs.Cells.{length-square}
use Rattle.inductance.specs.Matrix.{cell, matrix}
use Rattle.inductance.specs.Assembly.{block_under}
use Rattle.scatter.specs.Entries.{same}
use Rattle.scatter.specs.Renewal.{renewed}
use Rattle.scatter.specs.Mirror.{Symmetric}
use Rattle.scatter.proofs.Mirror.{renewed-symmetric}
use Rattle.node_move.specs.Move.{moved, ring, place_checks, place_refusal, move_refusal, Done, Premise, MoveClaim, MovedBy, MovedUnder, MoveReady}
use Rattle.node_move.proofs.Numbers.{place-done}

-- a move that is done is ready
pub ready : (m : Mesh) (old : List Float) (v : ℕ) (x y z : Float) → 0 ≡ place_refusal m (length old) v x y z → MoveReady m old v
unfolding place_refusal
ready m old v x y z e =
    let w = mesh-accepted max_nodes max_panels m (place_checks m (length old) v x y z) tt (sym e) in
    let a = w.0 in
    record {
      nodes_alike = a.nodes_alike;
      panels_alike = a.panels_alike;
      none_missing = a.none_missing;
      small = a.limits.few_nodes;
      few_panels = a.limits.few_panels;
      cells = eqb-true (length old) (nnode m * nnode m) (not-false _ w.1.0);
      there = leb-false (nnode m) v w.1.1.0;
    }

pub matrix-long : (f : Block) (m : Mesh) → length (matrix f m) ≡ nnode m * nnode m
unfolding matrix
matrix-long f m = length-square (nnode m) (cell f m)

-- under a rule that there is, demand 3's premise and a matrix of n × n numbers leave nothing to refuse
pub due-under : (m : Mesh) (old : List Float) (v : ℕ) (x y z : Float) → Premise Unit m v x y z → length old ≡ nnode m * nnode m → place_refusal m (length old) v x y z ≡ 0
due-under m old v x y z p l = (place-done m (length old) v x y z).1 (p.mesh, l, p.there, p.moved-mesh)

-- the claim, where a call that has demand 3's premise is not refused (due) and a fresh matrix has n × n numbers (sized)
module _ (Choice : Type 0) (cell_of : Mesh → ℕ → ℕ → Float) (matrix_of : Mesh → List Float) (refusal : ℕ) (m : Mesh) (old : List Float) (v : ℕ) (x y z : Float)
    (due : Premise Choice m v x y z → length old ≡ nnode m * nnode m → refusal ≡ 0) (sized : length (matrix_of m) ≡ nnode m * nnode m) where
  pub claim_refused : (r : ℕ) → (r ≡ 0 → ⊥) → r ≡ refusal → MoveClaim Choice cell_of matrix_of refusal m old v x y z r 0 m old
  claim_refused r h e = record {
    number = e;
    refused = λ _. (refl, refl, refl);
    accepted = λ q. absurd (h q);
    fresh = λ q. absurd (h q);
    symmetric = λ q. absurd (h q);
    demand = λ p q. absurd (h (e ∙ due p (ap length q ∙ sized)));
    renews = λ p l. absurd (h (e ∙ due p l));
  }

  -- where a fresh matrix, renewed, is the moved mesh's, and cells (a, b) and (b, a) are alike
  pub claim_done : (count : ℕ) (m' : Mesh) (new : List Float)
      → ((a b : ℕ) → cell_of (moved m v x y z) a b ≡ cell_of (moved m v x y z) b a)
      → renewed (ring m (same v)) (cell_of (moved m v x y z)) (nnode m) (matrix_of m) ≡ matrix_of (moved m v x y z)
      → 0 ≡ refusal
      → Done cell_of m old v x y z count m' new
      → MoveClaim Choice cell_of matrix_of refusal m old v x y z 0 count m' new
  claim_done count m' new turned law e d =
      let left : old ≡ matrix_of m → new ≡ matrix_of (moved m v x y z) =
      λ h. d.cells ∙ ap (λ (l : List Float). renewed (ring m (same v)) (cell_of (moved m v x y z)) (nnode m) l) h ∙ law in
      record {
        number = e;
        refused = λ h. absurd (h refl);
        accepted = λ _. d;
        fresh = λ _. left;
        symmetric = λ _ s. subst (Symmetric (nnode m)) (sym d.cells) (renewed-symmetric (ring m (same v)) (cell_of (moved m v x y z)) (nnode m) old turned s);
        demand = λ _ h. (refl, left h);
        renews = λ _ _. (refl, d);
      }

-- ---- the rule
abbrev Claim : ℕ → Rule → Mesh → List Float → ℕ → Float → Float → Float → ℕ → ℕ → Mesh → List Float → Type 0
Claim number rule m old v x y z r count m' new =
    MoveClaim (NoSuchRule number → ⊥) (cell (block_under rule)) (matrix (block_under rule)) (move_refusal rule m (length old) v x y z) m old v x y z r count m' new

known : (kind : QuadratureKind) (m : Mesh) (size v : ℕ) (x y z : Float) → move_refusal (Some kind) m size v x y z ≡ place_refusal m size v x y z
unfolding move_refusal place_refusal first
known kind m size v x y z = refl

unknown : (m : Mesh) (size v : ℕ) (x y z : Float) → no_such_choice ≡ move_refusal None m size v x y z
unfolding move_refusal first
unknown m size v x y z = refl

pub claim_known : (number : ℕ) (kind : QuadratureKind) (m : Mesh) (old : List Float) (v : ℕ) (x y z : Float) (r count : ℕ) (m' : Mesh) (new : List Float)
    → quadrature_rule number ≡ Some kind → MovedUnder kind m old v x y z r count m' new → MovedBy number m old v x y z r count m' new
claim_known number kind m old v x y z r count m' new e w =
    let under : Premise (NoSuchRule number → ⊥) m v x y z → Premise Unit m v x y z =
    λ p. record { choice = tt; mesh = p.mesh; moved-mesh = p.moved-mesh; there = p.there } in
    subst (λ (rule : Rule). Claim number rule m old v x y z r count m' new) (sym e)
    (record {
      number = w.number ∙ sym (known kind m (length old) v x y z);
      refused = w.refused;
      accepted = w.accepted;
      fresh = w.fresh;
      symmetric = w.symmetric;
      demand = λ p. w.demand (under p);
      renews = λ p. w.renews (under p);
    })

pub claim_unknown : (number : ℕ) (m : Mesh) (old : List Float) (v : ℕ) (x y z : Float) → quadrature_rule number ≡ None → MovedBy number m old v x y z no_such_choice 0 m old
claim_unknown number m old v x y z e =
    let none : NoSuchRule number = (rule_on number).0 (rw e) in
    subst (λ (rule : Rule). Claim number rule m old v x y z no_such_choice 0 m old) (sym e)
    (claim_refused (NoSuchRule number → ⊥) (cell (block_under None)) (matrix (block_under None)) _ m old v x y z (λ p _. absurd (p.choice none)) (matrix-long (block_under None) m) no_such_choice (λ q. suc-ne-zero 11 q) (unknown m (length old) v x y z))
