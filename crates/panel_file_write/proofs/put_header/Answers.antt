-- The mark, and behind it version and counts.
use mathlib.Core.List.{[], ◌∷◌}
use native.Mathlib.Omega.{arith}
use Rattle.lists.proofs.Putting.{both}
use Rattle.panel_file.specs.PanelFile.{encode_header}
use Rattle.panel_file_write.proofs.put_header.Goals as goal

pub returns : goal.returns
unfolding encode_header
returns c =
    both c.args.out.now 0 (80 ∷ 78 ∷ 76 ∷ []) _ _ _ _ _ (omega (arith, c.requires)) c.put-behind.ensures c.put_three.ensures
