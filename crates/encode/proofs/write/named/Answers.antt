-- The body is what the range names.
use mathlib.Core.Path.{ap}
use Rattle.der.specs.Octets.{tlv}
use Rattle.buffer.proofs.Wrote.{wrote_as}
use Rattle.encode.proofs.write.named.Goals as goal

pub returns : goal.returns
returns c = wrote_as (ap (tlv c.args.tag) c.part.ensures) c.element.ensures
