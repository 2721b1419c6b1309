-- The coupling of the corners, and densities that are those of the corners because both panels are known.
use Rattle.coupling.specs.Block.{mutual_inductance_block}
use Rattle.pair.specs.Pair as Spec
use Rattle.pair.proofs.Cached.{cached_densities}
use Rattle.pair.proofs.pair_block.Goals as goal

pub pair_coupling-requires : goal.pair_coupling-requires
pair_coupling-requires c = c.requires

pub returns : goal.returns
unfolding mutual_inductance_block Spec.KnownSource
returns c =
    rw (
      c.block_from_coupling.ensures,
      c.pair_coupling.ensures,
      cached_densities c.args.s.panel c.requires.known_source.0,
      cached_densities c.args.t c.requires.known,
    )
