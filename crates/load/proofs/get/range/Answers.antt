-- Its parts, each at its offset.
use Rattle.load.specs.Loaded.{range_loaded}
use Rattle.load.proofs.get.range.Goals as goal

pub returns : goal.returns
unfolding range_loaded
returns c = cc
