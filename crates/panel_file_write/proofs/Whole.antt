-- A call that goes on has an accepted mesh and an output of its file's length, so there is room for each part; the parts put one behind the other are the file and fill the output (`done`).
-- Then the round trip of panel_file says what the reader makes of it.
use mathlib.Core.Path.{◌≡◌, refl, sym, ap, ◌∙◌}
use mathlib.Core.List.{List, []}
use Prim.Native.Nat.{ℕ, ◌+◌, ◌*◌, ◌^◌, ◌≤◌, ◌<◌}
use native.Mathlib.Omega.{arith}
use lib.ListN.{length}
use Rattle.refusal.specs.Outcome.{number}
use Rattle.refusal.specs.declared.Refusal.{Refusal}
use Rattle.refusal.proofs.Outcome.{never_0, after_refusal}
use Rattle.refusal.proofs.Checks.{after-done}
use Rattle.refusal.proofs.Tests.{differ_off}
use Rattle.lists.specs.Putting.{Put}
use Rattle.lists.proofs.Putting.{both, put_whole}
use Rattle.mesh.specs.Mesh.{Mesh, mesh_of, nnode, ntri}
use Rattle.mesh.specs.Conditions.{Accepted}
use Rattle.mesh.proofs.Refusals.{mesh-accepted}
use Rattle.panel_file.specs.PanelFile.{decode, encode_header, encode_node, encode_panel, node_rows, panel_rows, encode, Held, file_refusal}
use Rattle.panel_file.proofs.RoundTrip.{header-length, nodes-length, plain_length, encode-length, decode-encode, encode-accepted}
use Rattle.panel_file_write.specs.Write.{file_size, size_checks, write_refusal, Written}

-- a refused call
pub refused : (n p : ℕ) (m : Mesh) (held : List ℕ) (r : Refusal) → number r ≡ write_refusal n p m (length held) → Written n p m held (number r) held
refused n p m held r e = record { number = e; bytes = sym (after_refusal r (encode m) held); read = λ z. absurd (never_0 r z); back = λ z. absurd (never_0 r z) }

-- ---- a call that goes on
module _ (n p : ℕ) (m : Mesh) (held : List ℕ) (e : 0 ≡ write_refusal n p m (length held)) where
  known : Accepted n p m × (length held ≡ file_size m)
  unfolding write_refusal
  known = let v = mesh-accepted n p m (size_checks m (length held)) tt (sym e) in (v.0, (differ_off (length held) (file_size m)).0 v.1.0)

  pub accepted : Accepted n p m
  accepted = known.0

  long : length held ≡ 9 + (nnode m * 24 + ntri m * 6)
  long = known.1 ∙ plain_length (nnode m) (ntri m)

  -- ---- room for each part, whatever numbers the parts before it hold
  pub header-room : 9 ≤ length held
  header-room = omega (arith, long)

  pub nodes-room : (c q : ℕ) (headed : List ℕ) (a : ℕ) → Put held 0 (encode_header c q) headed a → length headed ≡ length held → a + nnode m * 24 ≤ length headed
  nodes-room c q headed a header same = omega (arith, long, same, header.behind, header-length c q)

  pub panels-room : (c q : ℕ) (headed : List ℕ) (a : ℕ) → Put held 0 (encode_header c q) headed a → length headed ≡ length held
      → (r : Mesh) → nnode r ≡ nnode m → (noded : List ℕ) (b : ℕ) → Put headed a (node_rows r) noded b → length noded ≡ length headed → b + ntri m * 6 ≤ length noded
  panels-room c q headed a header same r e noded b nodes same' = omega (arith, long, same, same', header.behind, header-length c q, nodes.behind, nodes-length r, e)

  -- ---- the mesh's own parts are the file
  module _ (headed : List ℕ) (a : ℕ) (header : Put held 0 (encode_header (nnode m) (ntri m)) headed a) (same : length headed ≡ length held)
      (noded : List ℕ) (b : ℕ) (nodes : Put headed a (node_rows (mesh_of m.xs m.ys m.zs [] [] [])) noded b)
      (left : List ℕ) (to : ℕ) (panels : Put noded b (panel_rows (mesh_of [] [] [] m.t0 m.t1 m.t2)) left to) where
    file : Put held 0 (encode m) left to
    unfolding encode encode_node encode_panel
    file =
        both held 0 (encode_header (nnode m) (ntri m)) headed a _ left to (omega (arith, long, header-length (nnode m) (ntri m))) header
        (both headed a (node_rows m) noded b (panel_rows m) left to (omega (arith, nodes-room _ _ headed a header same, nodes-length m)) nodes panels)

    pub done : n < 2 ^ 16 → p < 2 ^ 16 → Held m → Written n p m held 0 left
    done sn sp h =
        let whole : left ≡ encode m = put_whole held (encode m) left to (known.1 ∙ sym (encode-length m)) file in
        record {
          number = e;
          bytes = whole ∙ sym (after-done 0 (encode m) held refl);
          read = λ z. ap (file_refusal n p 0) whole ∙ encode-accepted m n p accepted sn sp h;
          back = λ z. ap (λ (f : List ℕ). decode f) whole ∙ decode-encode m n p accepted sn sp h;
        }
