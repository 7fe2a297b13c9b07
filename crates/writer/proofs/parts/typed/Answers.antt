-- The parts behind the header, which has their size.
use Rattle.sizes.specs.Bodies.{typed_body}
use Rattle.writer.proofs.Puts.{sure, short_then, put_sized}
use Rattle.writer.proofs.parts.typed.Goals as goal

pub returns : goal.returns
unfolding typed_body
returns c =
    put_sized _ c.header.ensures c.typed.ensures
    (short_then (sure c.named.ensures) (sure c.named-2.ensures))
