-- The sizes of the parts make that of the whole.
use Rattle.sizes.specs.Bodies.{attribute_in, attribute_body}
use Rattle.encode.proofs.Capped.{sizing}
use Rattle.sizes.proofs.attribute.Goals as goal

pub returns : goal.returns
unfolding attribute_in attribute_body
returns c = search sizing depth 14
