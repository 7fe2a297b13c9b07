-- The sizes of the parts make that of the whole.
use Rattle.sizes.specs.Bodies.{algorithm_body}
use Rattle.encode.proofs.Capped.{sizing}
use Rattle.sizes.proofs.algorithm.Goals as goal

pub returns : goal.returns
unfolding algorithm_body
returns c = search sizing depth 14
