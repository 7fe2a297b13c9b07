-- Its parts, each at its offset.
use Rattle.load.specs.Loaded.{attribute_loaded}
use Rattle.load.proofs.row.AttributeRowLoaded.at.Goals as goal

pub returns : goal.returns
unfolding attribute_loaded
returns c = cc
