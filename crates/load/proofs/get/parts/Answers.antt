-- Its parts, each at its offset.
use Rattle.load.specs.Loaded.{parts_loaded}
use Rattle.load.proofs.get.parts.Goals as goal

pub returns : goal.returns
unfolding parts_loaded
returns c = cc
