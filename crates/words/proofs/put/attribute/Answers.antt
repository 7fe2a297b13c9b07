-- As row n of its kind.
use Rattle.words.specs.InPlace.{attribute_stored}
use Rattle.words.proofs.put.attribute.Goals as goal

pub returns : goal.returns
unfolding attribute_stored
returns c = c.row.ensures
