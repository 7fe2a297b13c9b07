-- The sizes are added.
use Rattle.sizes.proofs.Leaves.{taken_is}
use Rattle.sizes.proofs.rows.joined.Goals as goal

pub returns : goal.returns
returns c = search taken_is
