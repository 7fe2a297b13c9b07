-- The size of a bag's body makes that of the bag.
use Rattle.sizes.proofs.Leaves.{one_is}
use Rattle.sizes.proofs.rows.one_bag.Goals as goal

pub returns : goal.returns
returns c = search one_is
