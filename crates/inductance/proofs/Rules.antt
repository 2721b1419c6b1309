-- The call by cases on its rule: there is none and 12 stops it, or the number and the matrix are those under the rule.
use mathlib.Core.Path.{◌≡◌, refl, sym, subst}
use mathlib.Core.List.{List}
use Prim.Native.Nat.{ℕ}
use native.Mathlib.Nat.{suc-ne-zero}
use lib.ListN.{length}
use lib.Ieee.{Float}
use Rattle.tri.specs.Quadrature.{quadrature_rule}
use Rattle.tri.specs.declared.quadrature.QuadratureKind.{QuadratureKind}
use Rattle.tri.specs.Quadrature.{Rule}
use Rattle.std.specs.Prelude.{Some, None}
use Rattle.refusal.specs.Numbers.{no_such_choice}
use Rattle.refusal.specs.Checks.{first, after}
use Rattle.refusal.proofs.Checks.{after-refused}
use Rattle.mesh.specs.Mesh.{Mesh}
use Rattle.inductance.specs.Matrix.{matrix}
use Rattle.inductance.proofs.Mirror.{left-symmetric}
use Rattle.inductance.specs.Assembly.{block_under, matrix_refusal, sized_refusal, Assembled, AssembledUnder}

abbrev Outcome : Rule → Mesh → List Float → ℕ → List Float → Type 0
Outcome rule m out r out' = (r ≡ matrix_refusal rule m (length out)) × (out' ≡ after r (matrix (block_under rule) m) out)

known : (kind : QuadratureKind) (m : Mesh) (out : List Float) (r : ℕ) (out' : List Float) → AssembledUnder kind m out r out' → Outcome (Some kind) m out r out'
unfolding matrix_refusal sized_refusal first
known kind m out r out' w = (w.refusal, w.cells)

unknown : (m : Mesh) (out : List Float) → Outcome None m out no_such_choice out
unfolding matrix_refusal first
unknown m out = (refl, sym (after-refused no_such_choice _ out (λ e. suc-ne-zero 11 e)))

outcome : (number : ℕ) (rule : Rule) (m : Mesh) (out : List Float) (r : ℕ) (out' : List Float) → quadrature_rule number ≡ rule → Outcome rule m out r out' → Assembled number m out r out'
outcome number rule m out r out' e w =
    let v = subst (λ (x : Rule). Outcome x m out r out') (sym e) w in
    record { refusal = v.0; cells = v.1; symmetric = left-symmetric (block_under (quadrature_rule number)) m out r out' v.1 }

pub assembled_known : (number : ℕ) (kind : QuadratureKind) (m : Mesh) (out : List Float) (r : ℕ) (out' : List Float)
    → quadrature_rule number ≡ Some kind → AssembledUnder kind m out r out' → Assembled number m out r out'
assembled_known number kind m out r out' e w = outcome number (Some kind) m out r out' e (known kind m out r out' w)

pub assembled_unknown : (number : ℕ) (m : Mesh) (out : List Float) → quadrature_rule number ≡ None → Assembled number m out no_such_choice out
assembled_unknown number m out e = outcome number None m out no_such_choice out e (unknown m out)
