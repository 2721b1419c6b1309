-- What an accepted input holds: counts within the limits, its fields within its bytes, indices below the node count, and a value for each node. Assumes nothing.
use mathlib.Core.Path.{◌≡◌, sym, ap, ◌∙◌}
use mathlib.Core.List.{List}
use Prim.Native.Nat.{ℕ, ◌≤◌, ◌<◌}
use native.Mathlib.Nat.{one-mul}
use native.Mathlib.Omega.{arith}
use borrow.Author.Tests.{ne_eqb}
use lib.ListN.{length, get_or}
use lib.Ieee.{nan}
use Rattle.binary64.specs.Binary64.{at}
use Rattle.lists.proofs.Filling.{tabulate_get}
use Rattle.refusal.specs.Outcome.{number}
use Rattle.refusal.specs.declared.Refusal.{Refusal}
use Rattle.refusal.proofs.Outcome.{never_0}
use Rattle.mesh.specs.Mesh.{triangle_indices}
use Rattle.panel_file.specs.PanelFile.{value_place, length_due, node_count, panel_count, nodal_value, decode, Holds, IndicesBelow}
use Rattle.panel_file.specs.Conditions.{AcceptedFile}
use Rattle.panel_file.proofs.Refusals as File
use Rattle.panel_file.proofs.Accepted as Tests
use Rattle.panel_file.proofs.Decoded as Decoded
use Rattle.density_text.specs.Text.{max_nodes, max_panels, input_refusal, refused_line, densities, text, nodal_values, Input}

-- ---- which text
pub text-refused : (b : List ℕ) (r : Refusal) → number r ≡ input_refusal b → refused_line (number r) ≡ text b
unfolding text
text-refused b r e = let n = ne_eqb (input_refusal b) 0 (λ z. never_0 r (e ∙ z)) in rw (n, e)

pub text-accepted : (b : List ℕ) → 0 ≡ input_refusal b → densities b ≡ text b
unfolding text
text-accepted b e = rw (← e)

-- a file that was accepted, of the bytes read
pub input_of : {n p : ℕ} {a b : List ℕ} → n ≡ node_count a → p ≡ panel_count a → a ≡ b → 0 ≡ input_refusal b → Input n p a
input_of e f g h = record { nodes = e; panels = f; accepted = ap input_refusal g ∙ sym h }

-- ---- of an accepted input
module _ (n p : ℕ) (b : List ℕ) (input : Input n p b) where
  accepted : AcceptedFile max_nodes max_panels 1 b
  accepted = (File.file-accepted max_nodes max_panels 1 b).0 input.accepted

  pub few_nodes : n ≤ 64
  few_nodes = omega (arith, accepted.limits.few_nodes, Decoded.nodes b, input.nodes)

  pub few_panels : p ≤ 128
  few_panels = omega (arith, accepted.limits.few_panels, Decoded.panels b, input.panels)

  pub holds : Holds n b
  holds = Tests.holds 1 b n p input.nodes input.panels (omega (arith, few_nodes)) (omega (arith, few_panels)) (Tests.clean max_nodes max_panels 1 b input.accepted).long

  pub values-there : value_place n p n ≤ length b
  unfolding length_due
  values-there = omega (arith, accepted.long, one-mul (node_count b), input.nodes, input.panels)

  pub indices_below : (i : ℕ) → i < p → IndicesBelow b n i
  indices_below i l =
      let h : i < panel_count b = omega (arith, input.panels) in
      Decoded.below b n i input.nodes h (accepted.none_missing i (omega (arith, Decoded.panels b)))

  pub value_at : (k : ℕ) → k < n → nodal_value b n p k ≡ at (nodal_values b) k
  unfolding nodal_values
  value_at k l =
      (λ j. nodal_value b (input.nodes j) (input.panels j) k)
      ∙ sym (tabulate_get nan (node_count b) (nodal_value b (node_count b) (panel_count b)) k (omega (arith, input.nodes)))

  -- the nodes of panel i, as they were read
  pub corners-below : (i : ℕ) → i < p → (v : List ℕ) → v ≡ triangle_indices (decode b) i → (get_or v 0 0 < n) × (get_or v 1 0 < n) × (get_or v 2 0 < n)
  corners-below i l v e =
      let h = accepted.none_missing i (omega (arith, Decoded.panels b, input.panels)) in
      let at : (k : ℕ) → get_or v k 0 ≡ get_or (triangle_indices (decode b) i) k 0 = λ k. ap (λ (x : List ℕ). get_or x k 0) e in
      (omega (arith, at 0, h.below0, Decoded.nodes b, input.nodes), omega (arith, at 1, h.below1, Decoded.nodes b, input.nodes), omega (arith, at 2, h.below2, Decoded.nodes b, input.nodes))
