-- Which numbers are a rule's, without the chain of tests: 1 to 5 and no other. By cases on the number, of which six are looked at one by one.
use mathlib.Core.Path.{◌≡◌, refl, sym, ◌∙◌}
use mathlib.Core.Logic.{◌↔◌, ◌⊎◌, inl, inr}
use mathlib.Core.Bool.{true, false, true≢false, false≢true}
use Prim.Native.Nat.{ℕ, zero, suc}
use native.Mathlib.Omega.{arith}
use borrow.Author.Tests.{ne_eqb}
use Rattle.tri.specs.Quadrature.{quadrature_rule, NoSuchRule, is_unknown}
use Rattle.tri.specs.declared.quadrature.QuadratureKind.{QuadratureKind}
use Rattle.tri.specs.declared.quadrature.QuadratureKind.TheVariants.{Dunavant1, Dunavant2, Dunavant3, Dunavant4, Dunavant5}
use Rattle.std.specs.Prelude.{Some, None}

rule_known : (n : ℕ) → NoSuchRule n ⊎ ((kind : QuadratureKind) × (quadrature_rule n ≡ Some kind))
unfolding quadrature_rule
rule_known zero = inl (inl refl)
rule_known (suc zero) = inr (Dunavant1, refl)
rule_known (suc (suc zero)) = inr (Dunavant2, refl)
rule_known (suc (suc (suc zero))) = inr (Dunavant3, refl)
rule_known (suc (suc (suc (suc zero)))) = inr (Dunavant4, refl)
rule_known (suc (suc (suc (suc (suc zero))))) = inr (Dunavant5, refl)
rule_known (suc (suc (suc (suc (suc (suc n)))))) = inl (inr (omega arith))

rule_unknown : (n : ℕ) → NoSuchRule n → quadrature_rule n ≡ None
unfolding quadrature_rule
rule_unknown n (inl e) = rw e
rule_unknown n (inr l) = rw (
  ne_eqb n 1 (λ e. omega (arith, l, e)),
  ne_eqb n 2 (λ e. omega (arith, l, e)),
  ne_eqb n 3 (λ e. omega (arith, l, e)),
  ne_eqb n 4 (λ e. omega (arith, l, e)),
  ne_eqb n 5 (λ e. omega (arith, l, e)),
)

-- ---- the test for 12
pub rule_off : (n : ℕ) → (is_unknown (quadrature_rule n) ≡ false) ↔ (NoSuchRule n → ⊥)
rule_off n = (λ e h. true≢false (sym (rw (rule_unknown n h)) ∙ e), λ h. go (rule_known n) h)
  where
    go : NoSuchRule n ⊎ ((kind : QuadratureKind) × (quadrature_rule n ≡ Some kind)) → (NoSuchRule n → ⊥) → is_unknown (quadrature_rule n) ≡ false
    go (inl k) h = absurd (h k)
    go (inr k) h = rw k.1

pub rule_on : (n : ℕ) → (is_unknown (quadrature_rule n) ≡ true) ↔ NoSuchRule n
rule_on n = (λ e. go (rule_known n) e, λ h. rw (rule_unknown n h))
  where
    go : NoSuchRule n ⊎ ((kind : QuadratureKind) × (quadrature_rule n ≡ Some kind)) → is_unknown (quadrature_rule n) ≡ true → NoSuchRule n
    go (inl k) e = k
    go (inr k) e = let z : false ≡ true = rw k.1 at e in absurd (false≢true z)
