-- What the writer and the reader owe each other, as calls: what one of them leaves, the other takes. A file that was written is read again whole, two meshes that leave one file are one,
-- and a file without NaN that was read is written again byte by byte. And the writer's number by its conditions: 6 stands behind the mesh's checks.
use mathlib.Core.Path.{◌≡◌, refl, sym, ap, ◌∙◌, subst}
use mathlib.Core.Bool.{not}
use mathlib.Core.List.{List, []}
use Prim.Native.Nat.{ℕ}
use lib.Dec.{eqb}
use lib.ListN.{length}
use Rattle.refusal.specs.Numbers.{output_length}
use Rattle.refusal.proofs.Checks.{applies-first, after-done}
use Rattle.refusal.proofs.Tests.{on, differ_off}
use Rattle.mesh.specs.Mesh.{Mesh, mesh_of, nnode, ntri}
use Rattle.mesh.specs.Conditions.{Accepted}
use Rattle.mesh.proofs.Calls.{call_behind, call_area, call_done, call_of_mesh}
use Rattle.panel_file.specs.PanelFile.{length_due, decode, encode, NoNan, Bytes, Lengths, lengths_of, Read}
use Rattle.panel_file.specs.Conditions.{AcceptedFile, MeshColumnsDue}
use Rattle.panel_file.proofs.Decoded.{nodes, panels}
use Rattle.panel_file.proofs.Refusals.{accepted-mesh, file-accepted, read-accepted}
use Rattle.panel_file.proofs.RoundTrip.{encode-decode}
use Rattle.panel_file_write.specs.Write.{file_size, size_checks, write_refusal, WriteNumbered, Written}

-- ---- the number
pub write_numbered : (n p : ℕ) (m : Mesh) (size : ℕ) → WriteNumbered n p m size (write_refusal n p m size)
unfolding write_refusal
write_numbered n p m size =
    let post = size_checks m size in
    let other = not (eqb size (file_size m)) in
    let w4 = call_area n p m [] post Unit (λ h. h, λ h. h) tt tt in
    let w6 = call_behind n p m [] post Unit (λ h. h, λ h. h) output_length tt tt tt in
    let w0 = call_done n p m [] post Unit (λ h. h, λ h. h) tt tt in
    let own = applies-first [] output_length other [] tt tt tt in
    let off = differ_off size (file_size m) in
    let differs = on other (size ≡ file_size m) off in
    record {
      mesh = call_of_mesh n p m [] post Unit (λ h. h, λ h. h) tt tt;
      is_4 = (λ e. (w4.0 e).1, λ h. w4.1 (tt, h));
      is_6 = (λ e. let v = w6.0 e in (v.1, differs.0 (own.0 v.2).1), λ h. w6.1 (tt, h.0, own.1 (tt, differs.1 h.1)));
      is_0 = (λ e. let v = w0.0 e in (v.1, off.0 v.2.0), λ h. w0.1 (tt, h.0, (off.1 h.1, tt)));
    }

-- ---- what a reader that is done has left
read_left : (n p : ℕ) (b : List ℕ) (held : Mesh) (r : ℕ) (left : Mesh) → Read n p b held r left → r ≡ 0 → left ≡ decode b
read_left n p b held r left read z =
    let x = read.x ∙ after-done r _ _ z in
    let y = read.y ∙ after-done r _ _ z in
    let w = read.z ∙ after-done r _ _ z in
    let t0 = read.t0 ∙ after-done r _ _ z in
    let t1 = read.t1 ∙ after-done r _ _ z in
    let t2 = read.t2 ∙ after-done r _ _ z in
    (λ i. mesh_of (x i) (y i) (w i) (t0 i) (t1 i) (t2 i))

-- ---- written, then read
module _ (n p : ℕ) (m : Mesh) (out file : List ℕ) (written : Written n p m out 0 file) where
  accepted : Accepted n p m
  accepted = ((write_numbered n p m (length out)).is_0.0 (sym written.number)).0

  -- columns of the mesh's lengths are of the file's counts
  due : (held : Mesh) → lengths_of held ≡ lengths_of m → MeshColumnsDue file (lengths_of held)
  due held e =
      let c = ap (λ (d : Mesh). nnode d) (sym (written.back refl)) ∙ nodes file in
      let q = ap (λ (d : Mesh). ntri d) (sym (written.back refl)) ∙ panels file in
      let a = accepted.nodes_alike in
      let b = accepted.panels_alike in
      record {
        nodes = record { first = ap (λ (l : Lengths). l.x) e ∙ c; second = ap (λ (l : Lengths). l.y) e ∙ a.ys_long ∙ c; third = ap (λ (l : Lengths). l.z) e ∙ a.zs_long ∙ c };
        panels = record { first = ap (λ (l : Lengths). l.t0) e ∙ q; second = ap (λ (l : Lengths). l.t1) e ∙ b.t1_long ∙ q; third = ap (λ (l : Lengths). l.t2) e ∙ b.t2_long ∙ q };
      }

  -- into columns of the mesh's lengths the reader puts each coordinate and each index of it
  pub written_read : (held : Mesh) (r : ℕ) (left : Mesh) → lengths_of held ≡ lengths_of m → Read n p file held r left → (r ≡ 0) × (left ≡ m)
  written_read held r left e read =
      let ok = (file-accepted n p 0 file).0 (written.read refl) in
      let z = read.number ∙ (read-accepted n p file (lengths_of held)).1 (ok, due held e) in
      (z, read_left n p file held r left read z ∙ written.back refl)

-- two meshes that leave one file are one: they agree in each coordinate, NaN being one number, and in each index
pub written_once : (n p : ℕ) (m m' : Mesh) (out out' file : List ℕ) → Written n p m out 0 file → Written n p m' out' 0 file → m ≡ m'
written_once n p m m' out out' file w w' = sym (w.back refl) ∙ w'.back refl

-- ---- read, then written
module _ (n p : ℕ) (b : List ℕ) (held left : Mesh) (read : Read n p b held 0 left) where
  taken : AcceptedFile n p 0 b
  taken = ((read-accepted n p b (lengths_of held)).0 (sym read.number)).0

  same : left ≡ decode b
  same = read_left n p b held 0 left read refl

  size : length b ≡ file_size left
  size = taken.long ∙ (λ i. length_due 0 (sym (nodes b) i) (sym (panels b) i)) ∙ ap (λ (d : Mesh). file_size d) (sym same)

  -- an output of the file's own length becomes the file, byte by byte
  pub read_written : Bytes b → NoNan b → (out : List ℕ) (r : ℕ) (out' : List ℕ) → length out ≡ length b → Written n p left out r out' → (r ≡ 0) × (out' ≡ b)
  read_written bytes numbers out r out' long written =
      let ok = subst (λ (d : Mesh). Accepted n p d) (sym same) (accepted-mesh n p 0 b taken) in
      let z = written.number ∙ (write_numbered n p left (length out)).is_0.1 (ok, long ∙ size) in
      (z, written.bytes ∙ after-done r (encode left) out z ∙ ap encode same ∙ encode-decode b bytes n p ((file-accepted n p 0 b).1 taken) numbers)
