-- As row n of its kind.
use Rattle.words.specs.InPlace.{bag_stored}
use Rattle.words.proofs.put.bag.Goals as goal

pub returns : goal.returns
unfolding bag_stored
returns c = c.row.ensures
