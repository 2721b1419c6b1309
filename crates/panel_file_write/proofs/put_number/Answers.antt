-- The first bytes of the word are those of the definition.
use mathlib.Core.Path.{◌≡◌, ap, ◌∙◌, subst}
use mathlib.Core.List.{List}
use Prim.Native.Nat.{ℕ}
use lib.ListN.{take}
use Rattle.lists.specs.Putting.{Put}
use Rattle.panel_file.specs.LittleEndian.{to_little_endian}
use Rattle.panel_file_write.proofs.Bytes.{lowest_bytes}
use Rattle.panel_file_write.proofs.put_number.Goals as goal

pub returns : goal.returns
returns c =
    let a = c.args in
    let e : take a.width c.to_le_bytes.result ≡ to_little_endian a.width a.n = ap (take a.width) c.to_le_bytes.ensures ∙ lowest_bytes a.width a.n c.requires.0 in
    subst (λ (bytes : List ℕ). Put a.out.now a.from bytes c.put.new.out c.put.result) e c.put.ensures
