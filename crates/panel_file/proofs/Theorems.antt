-- The reader's number by its conditions: 6 stands behind the file's five.
use mathlib.Core.List.{List, [], ◌∷◌}
use Prim.Native.Nat.{ℕ}
use Rattle.refusal.specs.Numbers.{output_length}
use Rattle.refusal.specs.Checks.{check}
use Rattle.refusal.proofs.Checks.{applies-first}
use Rattle.refusal.proofs.Tests.{on}
use Rattle.panel_file.specs.PanelFile.{file_checks, Lengths, mesh_columns_differ, read_refusal}
use Rattle.panel_file.specs.Conditions.{ReadNumbered}
use Rattle.panel_file.proofs.Accepted.{mesh-columns_off}
use Rattle.panel_file.proofs.Refusals.{c14, c11, c15, c3, c4, file_numbered, accepted, cleared, read-accepted}

pub read_numbered : (n p : ℕ) (b : List ℕ) (l : Lengths) → ReadNumbered n p b l (read_refusal n p b l)
unfolding read_refusal file_checks
read_numbered n p b l =
    let cs = c14 n p 0 b ∷ c11 n p 0 b ∷ c15 n p 0 b ∷ c3 n p 0 b ∷ c4 n p 0 b ∷ [] in
    let c6 = check output_length (mesh_columns_differ b l) in
    let o = mesh-columns_off b l in
    let w6 = applies-first cs 6 c6.applies [] tt tt tt in
    record {
      file = file_numbered n p 0 b (c6 ∷ []) tt tt tt tt tt;
      is_6 = (λ e. let v = w6.0 e in (accepted n p 0 b v.0, (on _ _ o).0 v.1), λ h. w6.1 (cleared n p 0 b h.0, (on _ _ o).1 h.1));
      is_0 = read-accepted n p b l;
    }
