-- As row n of its kind.
use Rattle.load.specs.Loaded.{safe_fetched}
use Rattle.load.proofs.safe.Goals as goal

pub returns : goal.returns
unfolding safe_fetched
returns c = c.fetch.ensures
