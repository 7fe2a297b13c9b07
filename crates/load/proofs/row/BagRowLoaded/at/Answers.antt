-- Its parts, each at its offset.
use Rattle.load.specs.Loaded.{bag_loaded}
use Rattle.load.proofs.row.BagRowLoaded.at.Goals as goal

pub returns : goal.returns
unfolding bag_loaded
returns c = cc
