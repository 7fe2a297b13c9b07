-- The part's length is that of the bytes that the range names.
use mathlib.Core.Path.{ap}
use lib.ListN.{length}
use Rattle.sizes.proofs.part.Goals as goal

pub returns : goal.returns
returns c = ap length c.part.ensures
