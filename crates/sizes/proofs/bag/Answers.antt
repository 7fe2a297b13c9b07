-- The sizes of the parts make that of the whole.
use Rattle.sizes.specs.Sizes.{bag_size}
use Rattle.encode.proofs.Capped.{sizing}
use Rattle.sizes.proofs.bag.Goals as goal

pub returns : goal.returns
unfolding bag_size
returns c = search sizing depth 14
