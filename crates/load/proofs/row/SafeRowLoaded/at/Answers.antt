-- Its parts, each at its offset.
use Rattle.load.specs.Loaded.{safe_loaded}
use Rattle.load.proofs.row.SafeRowLoaded.at.Goals as goal

pub returns : goal.returns
unfolding safe_loaded
returns c = cc
