-- The parts behind the header, which has their size.
use Rattle.pkcs12.specs.Encode.{attribute_bytes}
use Rattle.sizes.specs.Bodies.{attribute_in, attribute_body}
use Rattle.writer.proofs.Puts.{sure, short_then, put_sized}
use Rattle.writer.proofs.parts.attribute.Goals as goal

pub returns : goal.returns
unfolding attribute_bytes attribute_in attribute_body
returns c =
    put_sized _ c.header.ensures c.attribute.ensures
    (short_then (sure c.named.ensures) (sure c.named-2.ensures))
