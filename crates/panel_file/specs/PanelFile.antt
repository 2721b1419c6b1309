-- Document 01's panel file: "PNL", version, node count, panel count, nodes as three f64, panels as three indices, little-endian; and what its reader answers. Definitions only.
use Rattle.std.specs.Prelude.{◌≡◌, Bool, false, not, ◌||◌, List, [], ◌∷◌, ◌++◌, ℕ, ◌+◌, ◌*◌, ◌<◌, ◌≤◌, ◌^◌, T, ltb, eqb, length, get_or, Float}
use Rattle.std.specs.Float.{binary64}
use Rattle.std.specs.Float.Ieee.{fits, nan_bits}
use Rattle.binary64.specs.Binary64.{bits, at}
use Rattle.ieee754.specs.Ieee754.{canonical_bits}
use Rattle.lists.specs.Columns.{columns_differ}
use Rattle.lists.specs.Filling.{tabulate}
use Rattle.refusal.specs.Numbers.{file_mark, file_length, too_large, missing_node, zero_area, output_length}
use Rattle.refusal.specs.Checks.{Check, check, first, after}
use Rattle.mesh.specs.Mesh.{Mesh, mesh_of, nnode, ntri, some_misses_node, some_zero_area, passes_limits}
use Rattle.panel_file.specs.LittleEndian.{little_endian, three_fields, rows_from}

-- ---- the layout
-- the version that this reader takes
abbrev pub version : ℕ
version = 1

-- bytes of a count and of an index, by the version
abbrev pub count_width : ℕ → ℕ
count_width v = 2

-- bytes before the first node: mark, version, two counts
abbrev pub header_length : ℕ → ℕ
header_length v = 5 + 2 * count_width v

abbrev pub header : ℕ
header = header_length version

-- bytes of a file of n nodes and p panels with `extra` f64 a node behind them
unfoldable pub length_due : ℕ → ℕ → ℕ → ℕ
length_due extra n p = header + (n * 24 + p * 6 + extra * n * 8)

-- where a coordinate of node k stands (axis 0, 1, 2), a corner of panel i in a file of n nodes, and behind p panels the value of node k
abbrev pub coordinate_place : ℕ → ℕ → ℕ
coordinate_place axis k = header + (k * 24 + axis * 8)

abbrev pub index_place : ℕ → ℕ → ℕ → ℕ
index_place n corner i = header + (n * 24 + (i * 6 + corner * 2))

abbrev pub value_place : ℕ → ℕ → ℕ → ℕ
value_place n p k = header + (n * 24 + p * 6 + k * 8)

-- ---- decoding
abbrev pub node_count : List ℕ → ℕ
node_count b = little_endian (count_width version) b 5

abbrev pub panel_count : List ℕ → ℕ
panel_count b = little_endian (count_width version) b 7

unfoldable pub coordinate : List ℕ → ℕ → ℕ → Float
coordinate b axis k = bits (little_endian 8 b (coordinate_place axis k))

unfoldable pub index : List ℕ → ℕ → ℕ → ℕ → ℕ
index b n corner i = little_endian (count_width version) b (index_place n corner i)

unfoldable pub nodal_value : List ℕ → ℕ → ℕ → ℕ → Float
nodal_value b n p k = bits (little_endian 8 b (value_place n p k))

abbrev pub decode : List ℕ → Mesh
decode b =
    let n = node_count b in
    let p = panel_count b in
    mesh_of (tabulate n (coordinate b 0)) (tabulate n (coordinate b 1)) (tabulate n (coordinate b 2)) (tabulate p (index b n 0)) (tabulate p (index b n 1)) (tabulate p (index b n 2))

-- ---- encoding
unfoldable pub encode_header : ℕ → ℕ → List ℕ
encode_header n p = 80 ∷ 78 ∷ 76 ∷ three_fields 2 version n p

unfoldable pub encode_node : Mesh → ℕ → List ℕ
encode_node m k = three_fields 8 (canonical_bits (at m.xs k)) (canonical_bits (at m.ys k)) (canonical_bits (at m.zs k))

unfoldable pub encode_panel : Mesh → ℕ → List ℕ
encode_panel m i = three_fields (count_width version) (get_or m.t0 i 0) (get_or m.t1 i 0) (get_or m.t2 i 0)

-- every node's row, every panel's row
abbrev pub node_rows : Mesh → List ℕ
node_rows m = rows_from (encode_node m) 0 (nnode m)

abbrev pub panel_rows : Mesh → List ℕ
panel_rows m = rows_from (encode_panel m) 0 (ntri m)

unfoldable pub encode : Mesh → List ℕ
encode m = encode_header (nnode m) (ntri m) ++ (node_rows m ++ panel_rows m)

-- every coordinate is a number of the format, as those of lent columns are
pub record Held (m : Mesh) : Type 0 where
  pub x : (k : ℕ) → T (fits binary64 (at m.xs k))
  pub y : (k : ℕ) → T (fits binary64 (at m.ys k))
  pub z : (k : ℕ) → T (fits binary64 (at m.zs k))

-- no coordinate's bits are those of a NaN
abbrev pub NoNan : List ℕ → Type 0
NoNan b = (axis k : ℕ) → axis ≤ 2 → k < node_count b → nan_bits binary64 (little_endian 8 b (coordinate_place axis k)) ≡ false

-- each is a byte
abbrev pub Bytes : List ℕ → Type 0
Bytes b = (i : ℕ) → get_or b i 0 < 256

-- ---- the tests
-- 14: under a header's bytes, or mark or version wrong
unfoldable pub marks_differ : List ℕ → Bool
marks_differ b =
    ltb (length b) header
    || (not (eqb (get_or b 0 0) 80) || (not (eqb (get_or b 1 0) 78) || (not (eqb (get_or b 2 0) 76) || not (eqb (little_endian 2 b 3) version))))

-- 15
unfoldable pub length_differs : ℕ → List ℕ → Bool
length_differs extra b = not (eqb (length b) (length_due extra (node_count b) (panel_count b)))

-- the checks of a file under the limits of a call, with `extra` f64 a node behind it; the mesh is the file's own
unfoldable pub file_checks : ℕ → ℕ → ℕ → List ℕ → List Check
file_checks max_nodes max_panels extra b =
    check file_mark (marks_differ b)
    ∷ check too_large (passes_limits max_nodes max_panels (node_count b) (panel_count b))
    ∷ check file_length (length_differs extra b)
    ∷ check missing_node (some_misses_node (decode b))
    ∷ check zero_area (some_zero_area (decode b))
    ∷ []

unfoldable pub file_refusal : ℕ → ℕ → ℕ → List ℕ → ℕ
file_refusal max_nodes max_panels extra b = first (file_checks max_nodes max_panels extra b)

-- the lengths of the six lent columns
pub record Lengths : Type 0 where
  pub x : ℕ
  pub y : ℕ
  pub z : ℕ
  pub t0 : ℕ
  pub t1 : ℕ
  pub t2 : ℕ

abbrev pub lengths : ℕ → ℕ → ℕ → ℕ → ℕ → ℕ → Lengths
lengths x y z a b c = record { x = x; y = y; z = z; t0 = a; t1 = b; t2 = c }

abbrev pub lengths_of : Mesh → Lengths
lengths_of m = lengths (length m.xs) (length m.ys) (length m.zs) (length m.t0) (length m.t1) (length m.t2)

-- 6: columns that are not of the file's counts
abbrev pub mesh_columns_differ : List ℕ → Lengths → Bool
mesh_columns_differ b l = columns_differ (node_count b) l.x l.y l.z || columns_differ (panel_count b) l.t0 l.t1 l.t2

unfoldable pub read_refusal : ℕ → ℕ → List ℕ → Lengths → ℕ
read_refusal max_nodes max_panels b l = first (file_checks max_nodes max_panels 0 b ++ check output_length (mesh_columns_differ b l) ∷ [])

-- ---- what is known of a file once its length is tested
-- n is the file's count, and nodes and panels stand within it
pub record Holds (n : ℕ) (b : List ℕ) : Type 0 where
  pub nodes : n ≡ node_count b
  pub few_nodes : n < 2 ^ 16
  pub few_panels : panel_count b < 2 ^ 16
  pub long : header + (n * 24 + panel_count b * 6) ≤ length b

-- the indices of panel i are below the node count n
pub record IndicesBelow (b : List ℕ) (n i : ℕ) : Type 0 where
  pub below0 : index b n 0 i < n
  pub below1 : index b n 1 i < n
  pub below2 : index b n 2 i < n

-- ---- what the reader answers and leaves in its six columns
pub record Read (max_nodes max_panels : ℕ) (b : List ℕ) (held : Mesh) (r : ℕ) (left : Mesh) : Type 0 where
  pub number : r ≡ read_refusal max_nodes max_panels b (lengths_of held)
  pub x : left.xs ≡ after r (decode b).xs held.xs
  pub y : left.ys ≡ after r (decode b).ys held.ys
  pub z : left.zs ≡ after r (decode b).zs held.zs
  pub t0 : left.t0 ≡ after r (decode b).t0 held.t0
  pub t1 : left.t1 ≡ after r (decode b).t1 held.t1
  pub t2 : left.t2 ≡ after r (decode b).t2 held.t2
