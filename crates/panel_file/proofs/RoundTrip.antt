-- A mesh that was written is read again, and a file that was read is written again. The header, the rows of nodes and the rows of panels are each found at their places (`there`),
-- and each is the stretch of the file that it was read from (`again`). Assumes nothing.
use mathlib.Core.Path.{◌≡◌, refl, sym, ap, ◌∙◌, subst}
use mathlib.Core.Bool.{Bool, not}
use mathlib.Core.List.{List, [], ◌∷◌, ◌++◌, append-nil}
use Prim.Native.Nat.{ℕ, suc, ◌+◌, ◌*◌, ◌^◌, ◌≤◌, ◌<◌}
use native.Mathlib.Nat.{le_of_eq, zero-add, zero-mul}
use native.Mathlib.Omega.{arith}
use lib.Dec.{T}
use lib.ListN.{length, get_or, take, drop, length-append}
use lib.Seq.{drop-append-add, drop-cons, drop-drop, take-add, take_all, ext_get_or}
use lib.Ieee.{Float, nan, binary64, fits, to_bits}
use lib.Ieee.Bits.{of_bits-to_bits, to_bits-lt, to_bits-of_bits, nan_bits_is}
use Rattle.binary64.specs.Binary64.{bits, at}
use Rattle.ieee754.specs.Ieee754.{canonical_bits}
use Rattle.ieee754.proofs.Patterns.{canonical_is}
use Rattle.lists.specs.Filling.{tabulate}
use Rattle.lists.proofs.Filling.{tabulate-length, tabulate_get}
use Rattle.mesh.specs.Mesh.{Mesh, mesh_of, nnode, ntri}
use Rattle.mesh.specs.Conditions.{WithinLimits, NoneMissing, NoZeroArea, Accepted}
use Rattle.panel_file.specs.LittleEndian.{little_endian, three_fields, rows_from}
use Rattle.panel_file.specs.PanelFile.{version, length_due, coordinate_place, index_place, node_count, panel_count, coordinate, index, decode, encode_header, encode_node, encode_panel, node_rows, panel_rows, encode, Held, NoNan, Bytes, file_refusal}
use Rattle.panel_file.specs.Conditions.{Marked}
use Rattle.panel_file.proofs.Numbers.{bound}
use Rattle.panel_file.proofs.Decoded.{nodes, panels}
use Rattle.panel_file.proofs.Accepted.{Clean, clean, marked, length-due}
use Rattle.panel_file.proofs.Refusals.{file-accepted}
use Rattle.panel_file.proofs.Fields.{Three, fields_length, fields_at, fields_back, rows_length, rows_at, rows_back}

-- ---- the parts of a file and their lengths
pub header-length : (n p : ℕ) → length (encode_header n p) ≡ 9
unfolding encode_header
header-length n p = ap (λ (x : ℕ). suc (suc (suc x))) (fields_length 2 version n p)

pub node-length : (m : Mesh) (k : ℕ) → length (encode_node m k) ≡ 24
unfolding encode_node
node-length m k = fields_length 8 _ _ _

pub panel_length : (m : Mesh) (i : ℕ) → length (encode_panel m i) ≡ 6
unfolding encode_panel
panel_length m i = fields_length 2 _ _ _

pub nodes-length : (m : Mesh) → length (node_rows m) ≡ nnode m * 24
nodes-length m = rows_length (encode_node m) 24 (node-length m) 0 (nnode m)

panels-length : (m : Mesh) → length (panel_rows m) ≡ ntri m * 6
panels-length m = rows_length (encode_panel m) 6 (panel_length m) 0 (ntri m)

-- with nothing behind the panels
pub plain_length : (n p : ℕ) → length_due 0 n p ≡ 9 + (n * 24 + p * 6)
unfolding length_due
plain_length n p = let z : 0 * n ≡ 0 = zero-mul n in omega (arith, z)

pub encode-length : (m : Mesh) → length (encode m) ≡ length_due 0 (nnode m) (ntri m)
unfolding encode
encode-length m =
    let h = length-append (encode_header (nnode m) (ntri m)) (node_rows m ++ panel_rows m) in
    omega (arith, h, length-append (node_rows m) (panel_rows m), header-length (nnode m) (ntri m), nodes-length m, panels-length m, plain_length (nnode m) (ntri m))

-- ---- written, then read
module _ (m : Mesh) (n p : ℕ) (ok : Accepted n p m) (small_n : n < 2 ^ 16) (small-p : p < 2 ^ 16) (held : Held m) where
  abbrev file : List ℕ
  file = encode m

  few_nodes : nnode m < 256 ^ 2
  few_nodes = omega (arith, ok.limits.few_nodes)

  few_panels : ntri m < 256 ^ 2
  few_panels = omega (arith, ok.limits.few_panels)

  counts : Three 2 file 3 version (nnode m) (ntri m)
  unfolding encode encode_header
  counts = fields_at 2 file 3 version (nnode m) (ntri m) (node_rows m ++ panel_rows m) (omega arith) few_nodes few_panels refl

  behind-header : (x : ℕ) → drop (9 + x) file ≡ drop x (node_rows m ++ panel_rows m)
  unfolding encode
  behind-header x = ap (λ (k : ℕ). drop (k + x) file) (sym (header-length (nnode m) (ntri m))) ∙ drop-append-add (encode_header (nnode m) (ntri m)) (node_rows m ++ panel_rows m) x

  pattern : (x : Float) → T (fits binary64 x) → canonical_bits x < 256 ^ 8
  pattern x h = subst (λ (b : ℕ). b < 256 ^ 8) (sym (canonical_is x)) (to_bits-lt binary64 x h)

  node-there : (k : ℕ) → k < nnode m → Three 8 file (9 + k * 24) (canonical_bits (at m.xs k)) (canonical_bits (at m.ys k)) (canonical_bits (at m.zs k))
  unfolding encode_node
  node-there k l =
      let r = rows_at (encode_node m) 24 (node-length m) 0 (nnode m) k (panel_rows m) l in
      fields_at 8 file (9 + k * 24) _ _ _ r.0 (pattern _ (held.x k)) (pattern _ (held.y k)) (pattern _ (held.z k)) (behind-header (k * 24) ∙ r.1 ∙ ap (λ (j : ℕ). encode_node m j ++ r.0) (zero-add k))

  panel_there : (i : ℕ) → i < ntri m → Three 2 file (9 + (nnode m * 24 + i * 6)) (get_or m.t0 i 0) (get_or m.t1 i 0) (get_or m.t2 i 0)
  unfolding encode_panel
  panel_there i l =
      let r = rows_at (encode_panel m) 6 (panel_length m) 0 (ntri m) i [] l in
      let b = ok.none_missing i l in
      let e : drop (nnode m * 24 + i * 6) (node_rows m ++ panel_rows m) ≡ drop (i * 6) (panel_rows m) =
      ap (λ (x : ℕ). drop (x + i * 6) (node_rows m ++ panel_rows m)) (sym (nodes-length m)) ∙ drop-append-add (node_rows m) (panel_rows m) (i * 6) in
      fields_at 2 file (9 + (nnode m * 24 + i * 6)) _ _ _ r.0 (omega (arith, b.below0, few_nodes)) (omega (arith, b.below1, few_nodes)) (omega (arith, b.below2, few_nodes))
      (behind-header (nnode m * 24 + i * 6) ∙ e ∙ ap (drop (i * 6)) (sym (append-nil (panel_rows m))) ∙ r.1 ∙ ap (λ (j : ℕ). encode_panel m j ++ r.0) (zero-add i))

  -- a column of coordinates, and one of indices
  coordinates : (axis : ℕ) (xs : List Float) → length xs ≡ nnode m → ((k : ℕ) → T (fits binary64 (at xs k)))
      → ((k : ℕ) → k < nnode m → little_endian 8 file (coordinate_place axis k) ≡ canonical_bits (at xs k)) → tabulate (node_count file) (coordinate file axis) ≡ xs
  unfolding coordinate
  coordinates axis xs e f there =
      ap (λ (c : ℕ). tabulate c (coordinate file axis)) counts.second
      ∙ ext_get_or nan (tabulate (nnode m) (coordinate file axis)) xs (tabulate-length (nnode m) (coordinate file axis) ∙ sym e)
      (λ k l.
      let h : k < nnode m = rw (tabulate-length (nnode m) (coordinate file axis)) at l in
      tabulate_get nan (nnode m) (coordinate file axis) k h ∙ ap (λ (x : ℕ). bits x) (there k h ∙ canonical_is (at xs k)) ∙ of_bits-to_bits binary64 (at xs k) (f k))

  indices : (corner : ℕ) (t : List ℕ) → length t ≡ ntri m → ((i : ℕ) → i < ntri m → little_endian 2 file (index_place (nnode m) corner i) ≡ get_or t i 0)
      → tabulate (panel_count file) (index file (node_count file) corner) ≡ t
  unfolding index
  indices corner t e there =
      (λ j. tabulate (counts.third j) (index file (counts.second j) corner))
      ∙ ext_get_or 0 (tabulate (ntri m) (index file (nnode m) corner)) t (tabulate-length (ntri m) (index file (nnode m) corner) ∙ sym e)
      (λ i l.
      let h : i < ntri m = rw (tabulate-length (ntri m) (index file (nnode m) corner)) at l in
      tabulate_get 0 (ntri m) (index file (nnode m) corner) i h ∙ there i h)

  place : (w : ℕ) (a b x : ℕ) → a ≡ b → little_endian w file b ≡ x → little_endian w file a ≡ x
  place w a b x e h = ap (little_endian w file) e ∙ h

  pub decode-encode : decode (encode m) ≡ m
  decode-encode =
      let x = coordinates 0 m.xs refl held.x (λ k l. place 8 _ _ _ (omega arith) (node-there k l).first) in
      let y = coordinates 1 m.ys ok.nodes_alike.ys_long held.y (λ k l. place 8 _ _ _ (omega arith) (node-there k l).second) in
      let z = coordinates 2 m.zs ok.nodes_alike.zs_long held.z (λ k l. place 8 _ _ _ (omega arith) (node-there k l).third) in
      let a = indices 0 m.t0 refl (λ i l. place 2 _ _ _ (omega arith) (panel_there i l).first) in
      let b = indices 1 m.t1 ok.panels_alike.t1_long (λ i l. place 2 _ _ _ (omega arith) (panel_there i l).second) in
      let c = indices 2 m.t2 ok.panels_alike.t2_long (λ i l. place 2 _ _ _ (omega arith) (panel_there i l).third) in
      (λ j. mesh_of (x j) (y j) (z j) (a j) (b j) (c j))

  -- ---- the reader takes it
  encode-marked : Marked file
  unfolding encode encode_header
  encode-marked = record { room = omega (arith, encode-length m, plain_length (nnode m) (ntri m)); P = refl; N = refl; L = refl; versioned = counts.first }

  pub encode-accepted : file_refusal n p 0 (encode m) ≡ 0
  encode-accepted =
      (file-accepted n p 0 file).1
      record {
        marked = encode-marked;
        limits = subst (λ (d : Mesh). WithinLimits n p d) (sym decode-encode) ok.limits;
        long = encode-length m ∙ (λ i. length_due 0 (sym counts.second i) (sym counts.third i));
        none_missing = subst (λ (d : Mesh). NoneMissing d) (sym decode-encode) ok.none_missing;
        no_zero_area = subst (λ (d : Mesh). NoZeroArea d) (sym decode-encode) ok.no_zero_area;
      }

-- ---- read, then written
module _ (b : List ℕ) (bytes : Bytes b) (n p : ℕ) (ok : file_refusal n p 0 b ≡ 0) (numbers : NoNan b) where
  known : Clean n p 0 b
  known = clean n p 0 b ok

  long : length b ≡ 9 + (node_count b * 24 + panel_count b * 6)
  long = length-due 0 b known.long ∙ plain_length (node_count b) (panel_count b)

  -- the first nine bytes
  header_again : encode_header (node_count b) (panel_count b) ≡ take 9 b
  unfolding encode_header
  header_again =
      let m = marked b known.marks in
      let f = fields_back 2 b 3 bytes (omega (arith, long)) in
      let d0 = drop-cons b 0 0 (omega (arith, long)) in
      let d1 = drop-cons b 1 0 (omega (arith, long)) in
      let d2 = drop-cons b 2 0 (omega (arith, long)) in
      (λ i. sym m.P i ∷ sym m.N i ∷ sym m.L i ∷ (ap (λ (x : ℕ). three_fields 2 x (node_count b) (panel_count b)) (sym m.versioned) ∙ f) i)
      ∙ ap (λ (x : List ℕ). get_or b 0 0 ∷ get_or b 1 0 ∷ take 7 x) (sym d2)
      ∙ ap (λ (x : List ℕ). get_or b 0 0 ∷ take 8 x) (sym d1)
      ∙ ap (take 9) (sym d0)

  -- a coordinate's bits
  bits_again : (axis k : ℕ) → axis ≤ 2 → k < node_count b → canonical_bits (get_or (tabulate (node_count b) (coordinate b axis)) k nan) ≡ little_endian 8 b (coordinate_place axis k)
  unfolding coordinate
  bits_again axis k l h =
      let x = little_endian 8 b (coordinate_place axis k) in
      canonical_is _
      ∙ ap (to_bits binary64) (tabulate_get nan (node_count b) (coordinate b axis) k h)
      ∙ to_bits-of_bits binary64 x (bound 8 b (coordinate_place axis k) bytes) (subst (λ (t : Bool). T (not t)) (sym (sym (nan_bits_is binary64 x) ∙ numbers axis k l h)) tt)

  index_again : (corner i : ℕ) → i < panel_count b → get_or (tabulate (panel_count b) (index b (node_count b) corner)) i 0 ≡ little_endian 2 b (index_place (node_count b) corner i)
  unfolding index
  index_again corner i h = tabulate_get 0 (panel_count b) (index b (node_count b) corner) i h

  node_again : (k : ℕ) → k < node_count b → encode_node (decode b) k ≡ take 24 (drop (9 + k * 24) b)
  unfolding encode_node
  node_again k l =
      let o = 9 + k * 24 in
      let p0 : coordinate_place 0 k ≡ o = omega arith in
      let p1 : coordinate_place 1 k ≡ o + 8 = omega arith in
      let p2 : coordinate_place 2 k ≡ o + (8 + 8) = omega arith in
      let e0 = bits_again 0 k (omega arith) l ∙ ap (little_endian 8 b) p0 in
      let e1 = bits_again 1 k (omega arith) l ∙ ap (little_endian 8 b) p1 in
      let e2 = bits_again 2 k (omega arith) l ∙ ap (little_endian 8 b) p2 in
      (λ i. three_fields 8 (e0 i) (e1 i) (e2 i)) ∙ fields_back 8 b o bytes (omega (arith, long))

  panel_again : (i : ℕ) → i < panel_count b → encode_panel (decode b) i ≡ take 6 (drop (9 + node_count b * 24 + i * 6) b)
  unfolding encode_panel
  panel_again i l =
      let o = 9 + node_count b * 24 + i * 6 in
      let p0 : index_place (node_count b) 0 i ≡ o = omega arith in
      let p1 : index_place (node_count b) 1 i ≡ o + 2 = omega arith in
      let p2 : index_place (node_count b) 2 i ≡ o + (2 + 2) = omega arith in
      let e0 = index_again 0 i l ∙ ap (little_endian 2 b) p0 in
      let e1 = index_again 1 i l ∙ ap (little_endian 2 b) p1 in
      let e2 = index_again 2 i l ∙ ap (little_endian 2 b) p2 in
      (λ j. three_fields 2 (e0 j) (e1 j) (e2 j)) ∙ fields_back 2 b o bytes (omega (arith, long))

  pub encode-decode : encode (decode b) ≡ b
  unfolding encode
  encode-decode =
      let c = node_count b in
      let q = panel_count b in
      let z0 : 9 + 0 * 24 ≡ 9 = omega arith in
      let z1 : 9 + c * 24 + 0 * 6 ≡ 9 + c * 24 = omega arith in
      let h = (λ i. encode_header (nodes b i) (panels b i)) ∙ header_again in
      let r = ap (rows_from (encode_node (decode b)) 0) (nodes b) ∙ rows_back (encode_node (decode b)) 24 9 b 0 c (λ k l. node_again k (omega arith)) ∙ ap (λ (x : ℕ). take (c * 24) (drop x b)) z0 in
      let s = ap (rows_from (encode_panel (decode b)) 0) (panels b) ∙ rows_back (encode_panel (decode b)) 6 (9 + c * 24) b 0 q (λ i l. panel_again i (omega arith)) ∙ ap (λ (x : ℕ). take (q * 6) (drop x b)) z1 in
      let tail = ap (λ (x : List ℕ). take (c * 24) (drop 9 b) ++ take (q * 6) x) (sym (drop-drop (c * 24) 9 b)) ∙ sym (take-add (c * 24) (q * 6) (drop 9 b)) in
      (λ i. h i ++ (r i ++ s i)) ∙ ap (λ (x : List ℕ). take 9 b ++ x) tail ∙ sym (take-add 9 (c * 24 + q * 6) b) ∙ take_all (9 + (c * 24 + q * 6)) b (le_of_eq long)
