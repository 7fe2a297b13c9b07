-- Its parts, each at its offset.
use Rattle.load.specs.Loaded.{mac_loaded}
use Rattle.load.proofs.get.mac.Goals as goal

pub returns : goal.returns
unfolding mac_loaded
returns c = cc
