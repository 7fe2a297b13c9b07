-- The size of the set is that of an element.
use Rattle.sizes.proofs.Measures.{present_is}
use Rattle.sizes.proofs.rows.present.Goals as goal

pub returns : goal.returns
returns c = search present_is
