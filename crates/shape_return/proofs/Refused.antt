-- The claim of the call by cases: the number stops it and nothing is written, or the return is done; and by cases on the rule, of which there may be none.
use mathlib.Core.Path.{◌≡◌, refl, sym, ap, ◌∙◌, subst}
use mathlib.Core.List.{List}
use Prim.Native.Nat.{ℕ}
use native.Mathlib.Nat.{suc-ne-zero}
use lib.ListN.{length}
use lib.Ieee.{Float}
use Rattle.tri.specs.Quadrature.{quadrature_rule, NoSuchRule}
use Rattle.tri.specs.declared.quadrature.QuadratureKind.{QuadratureKind}
use Rattle.tri.specs.Quadrature.{Rule}
use Rattle.std.specs.Prelude.{Some, None}
use Rattle.tri.proofs.Rules.{rule_on}
use Rattle.refusal.specs.Numbers.{no_such_choice}
use Rattle.refusal.specs.Checks.{first}
use Rattle.mesh.specs.Mesh.{Mesh, nnode, max_nodes, max_panels}
use Rattle.mesh.specs.Conditions.{Accepted}
use Rattle.scatter.specs.Renewal.{renewed}
use Rattle.scatter.specs.Mirror.{Symmetric}
use Rattle.scatter.proofs.Mirror.{renewed-symmetric}
use Rattle.inductance.specs.Matrix.{cell, matrix}
use Rattle.inductance.specs.Assembly.{block_under}
use Rattle.shape_store.specs.Store.{Store}
use Rattle.shape_store.specs.Conditions.{KnownName}
use Rattle.shape_return.specs.Return.{named_shape, changed_ring, shape_refusal, return_refusal, Ready, Done, ReturnClaim}
use Rattle.shape_return.proofs.Numbers.{shape-done}

-- a shape that was lent as other lists
pub done_as : {cell_of : Mesh → ℕ → ℕ → Float} {m m₁ m₂ : Mesh} {old : List Float} {count : ℕ} {m' : Mesh} {new : List Float}
    → m₁ ≡ m₂ → Done cell_of m m₁ old count m' new → Done cell_of m m₂ old count m' new
done_as {cell_of} {m} {m₁} {m₂} {old} {count} {m'} {new} e d = subst (λ (n : Mesh). Done cell_of m n old count m' new) e d

-- under a rule that there is, a held name with all that is lent as it should be leaves nothing to refuse
pub due-under : (m : Mesh) (s : Store) (w : List ℕ) (size : ℕ) → Ready Unit m s size → KnownName s w → Accepted max_nodes max_panels (named_shape m s w) → shape_refusal m s w size ≡ 0
due-under m s w size p k a = (shape-done m s w size).1 (p.mesh, p.sized, k, a)

module _ (Choice : Type 0) (cell_of : Mesh → ℕ → ℕ → Float) (matrix_of : Mesh → List Float) (refusal : ℕ) (m : Mesh) (s : Store) (w : List ℕ) (old : List Float)
    (due : Ready Choice m s (length old) → KnownName s w → Accepted max_nodes max_panels (named_shape m s w) → refusal ≡ 0) where
  pub claim_refused : (r : ℕ) → (r ≡ 0 → ⊥) → r ≡ refusal → ReturnClaim Choice cell_of matrix_of refusal m s w old r 0 m old
  claim_refused r h e = record {
    number = e;
    refused = λ _. (refl, refl, refl);
    accepted = λ q. absurd (h q);
    fresh = λ q. absurd (h q);
    symmetric = λ q. absurd (h q);
    demand = λ p k a. e ∙ due p k a;
  }

  -- where a fresh matrix, renewed, is the named shape's, and cells (a, b) and (b, a) are alike
  pub claim_done : (count : ℕ) (m' : Mesh) (new : List Float)
      → ((a b : ℕ) → cell_of (named_shape m s w) a b ≡ cell_of (named_shape m s w) b a)
      → renewed (changed_ring m (named_shape m s w)) (cell_of (named_shape m s w)) (nnode m) (matrix_of m) ≡ matrix_of (named_shape m s w)
      → 0 ≡ refusal
      → Done cell_of m (named_shape m s w) old count m' new
      → ReturnClaim Choice cell_of matrix_of refusal m s w old 0 count m' new
  claim_done count m' new turned law e d =
      let m₁ = named_shape m s w in
      record {
        number = e;
        refused = λ h. absurd (h refl);
        accepted = λ _. d;
        fresh = λ _ h. d.cells ∙ ap (λ (l : List Float). renewed (changed_ring m m₁) (cell_of m₁) (nnode m) l) h ∙ law;
        symmetric = λ _ t. subst (Symmetric (nnode m)) (sym d.cells) (renewed-symmetric (changed_ring m m₁) (cell_of m₁) (nnode m) old turned t);
        demand = λ _ _ _. refl;
      }

-- ---- the rule
module _ (number : ℕ) (m : Mesh) (s : Store) (w : List ℕ) (old : List Float) where
  abbrev Claim : Rule → ℕ → ℕ → Mesh → List Float → Type 0
  Claim rule r count m' new =
      ReturnClaim (NoSuchRule number → ⊥) (cell (block_under rule)) (matrix (block_under rule)) (return_refusal rule m s w (length old)) m s w old r count m' new

  known : (kind : QuadratureKind) → return_refusal (Some kind) m s w (length old) ≡ shape_refusal m s w (length old)
  unfolding return_refusal shape_refusal first
  known kind = refl

  unknown : no_such_choice ≡ return_refusal None m s w (length old)
  unfolding return_refusal first
  unknown = refl

  pub claim_known : (kind : QuadratureKind) (r count : ℕ) (m' : Mesh) (new : List Float)
      → quadrature_rule number ≡ Some kind
      → ReturnClaim Unit (cell (block_under (Some kind))) (matrix (block_under (Some kind))) (shape_refusal m s w (length old)) m s w old r count m' new
      → Claim (quadrature_rule number) r count m' new
  claim_known kind r count m' new e c =
      subst (λ (rule : Rule). Claim rule r count m' new) (sym e)
      (record {
        number = c.number ∙ sym (known kind);
        refused = c.refused;
        accepted = c.accepted;
        fresh = c.fresh;
        symmetric = c.symmetric;
        demand = λ p. c.demand (record { choice = tt; mesh = p.mesh; sized = p.sized });
      })

  pub claim_unknown : quadrature_rule number ≡ None → Claim (quadrature_rule number) no_such_choice 0 m old
  claim_unknown e =
      let none : NoSuchRule number = (rule_on number).0 (rw e) in
      let f = block_under None in
      subst (λ (rule : Rule). Claim rule no_such_choice 0 m old) (sym e)
      (claim_refused (NoSuchRule number → ⊥) (cell f) (matrix f) _ m s w old (λ p k a. absurd (p.choice none)) no_such_choice (λ q. suc-ne-zero 11 q) unknown)
