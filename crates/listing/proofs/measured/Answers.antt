-- The offset behind the listing is its length.
use Rattle.listing.specs.Lines.{listing}
use Rattle.listing.proofs.Short.{counted}
use Rattle.buffer.proofs.Placing.{placed_end}
use Rattle.listing.proofs.measured.Goals as goal

pub returns : goal.returns
unfolding listing
returns c = placed_end c.answered.ensures.put (counted _ _)
