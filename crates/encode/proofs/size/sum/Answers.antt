-- The sum, cut.
use Rattle.encode.proofs.Capped.{sum_cut}
use Rattle.encode.proofs.size.sum.Goals as goal

pub returns : goal.returns
returns c = search sum_cut
