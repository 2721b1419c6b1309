-- Closed files, computed: of an empty mesh, and of document 01's panel with a fourth node on no panel, whose coordinates are -0, the smallest number and the NaN.
use mathlib.Core.Path.{◌≡◌, refl}
use mathlib.Core.List.{[], ◌∷◌, ◌++◌}
use lib.Ieee.{nan, to_bits, is_nan, of_bits}
use Rattle.binary64.specs.Binary64.{bits}
use Rattle.ieee754.specs.Ieee754.{canonical_bits}
use Rattle.mesh.specs.Mesh.{Mesh, mesh_of}
use Rattle.panel_file.specs.LittleEndian.{to_little_endian, three_fields, rows_from}
use Rattle.panel_file.specs.PanelFile.{encode_header, encode_node, encode_panel, encode}

pub empty : encode (mesh_of [] [] [] [] [] []) ≡ 80 ∷ 78 ∷ 76 ∷ 1 ∷ 0 ∷ 0 ∷ 0 ∷ 0 ∷ 0 ∷ []
unfolding encode encode_header three_fields to_little_endian rows_from
empty = refl

abbrev panel : Mesh
panel =
    let zero = bits 0 in
    let one = bits 0x3ff0_0000_0000_0000 in
    mesh_of (zero ∷ one ∷ zero ∷ bits 0x8000_0000_0000_0000 ∷ []) (zero ∷ zero ∷ one ∷ bits 1 ∷ []) (zero ∷ zero ∷ zero ∷ nan ∷ []) (0 ∷ []) (1 ∷ []) (2 ∷ [])

pub one_panel : encode panel ≡
    (80 ∷ 78 ∷ 76 ∷ 1 ∷ 0 ∷ 4 ∷ 0 ∷ 1 ∷ 0 ∷ [])
    ++ (0 ∷ 0 ∷ 0 ∷ 0 ∷ 0 ∷ 0 ∷ 0 ∷ 0 ∷ 0 ∷ 0 ∷ 0 ∷ 0 ∷ 0 ∷ 0 ∷ 0 ∷ 0 ∷ 0 ∷ 0 ∷ 0 ∷ 0 ∷ 0 ∷ 0 ∷ 0 ∷ 0 ∷ [])
    ++ (0 ∷ 0 ∷ 0 ∷ 0 ∷ 0 ∷ 0 ∷ 240 ∷ 63 ∷ 0 ∷ 0 ∷ 0 ∷ 0 ∷ 0 ∷ 0 ∷ 0 ∷ 0 ∷ 0 ∷ 0 ∷ 0 ∷ 0 ∷ 0 ∷ 0 ∷ 0 ∷ 0 ∷ [])
    ++ (0 ∷ 0 ∷ 0 ∷ 0 ∷ 0 ∷ 0 ∷ 0 ∷ 0 ∷ 0 ∷ 0 ∷ 0 ∷ 0 ∷ 0 ∷ 0 ∷ 240 ∷ 63 ∷ 0 ∷ 0 ∷ 0 ∷ 0 ∷ 0 ∷ 0 ∷ 0 ∷ 0 ∷ [])
    ++ (0 ∷ 0 ∷ 0 ∷ 0 ∷ 0 ∷ 0 ∷ 0 ∷ 128 ∷ 1 ∷ 0 ∷ 0 ∷ 0 ∷ 0 ∷ 0 ∷ 0 ∷ 0 ∷ 0 ∷ 0 ∷ 0 ∷ 0 ∷ 0 ∷ 0 ∷ 248 ∷ 127 ∷ [])
    ++ (0 ∷ 0 ∷ 1 ∷ 0 ∷ 2 ∷ 0 ∷ [])
unfolding encode encode_header encode_node encode_panel three_fields to_little_endian rows_from canonical_bits is_nan to_bits of_bits
one_panel = refl
