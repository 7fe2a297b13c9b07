-- As row n of its kind.
use Rattle.load.specs.Loaded.{attribute_fetched}
use Rattle.load.proofs.attribute.Goals as goal

pub returns : goal.returns
unfolding attribute_fetched
returns c = c.fetch.ensures
