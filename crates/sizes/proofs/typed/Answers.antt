-- The sizes of the parts make that of the whole.
use Rattle.sizes.specs.Bodies.{typed_body}
use Rattle.encode.proofs.Capped.{sizing}
use Rattle.sizes.proofs.typed.Goals as goal

pub returns : goal.returns
unfolding typed_body
returns c = search sizing depth 14
