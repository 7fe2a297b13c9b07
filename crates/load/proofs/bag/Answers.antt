-- As row n of its kind.
use Rattle.load.specs.Loaded.{bag_fetched}
use Rattle.load.proofs.bag.Goals as goal

pub returns : goal.returns
unfolding bag_fetched
returns c = c.fetch.ensures
