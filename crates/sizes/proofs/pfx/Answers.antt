-- The sizes of the parts make that of the whole.
use Rattle.sizes.specs.Sizes.{pfx_size}
use Rattle.encode.proofs.Capped.{sizing}
use Rattle.sizes.proofs.pfx.Goals as goal

pub returns : goal.returns
unfolding pfx_size
returns c = search sizing depth 14
