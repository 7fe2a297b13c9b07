-- As row n of its kind.
use Rattle.words.specs.InPlace.{safe_stored}
use Rattle.words.proofs.put.safe.Goals as goal

pub returns : goal.returns
unfolding safe_stored
returns c = c.row.ensures
