-- The sizes of the parts make that of the whole.
use Rattle.sizes.specs.Sizes.{content_info_size}
use Rattle.encode.proofs.Capped.{sizing}
use Rattle.sizes.proofs.content_info.Goals as goal

pub returns : goal.returns
unfolding content_info_size
returns c = search sizing depth 14
