-- The parts behind the header, which has their size.
use Rattle.pkcs12.specs.Encode.{algorithm_bytes}
use Rattle.sizes.specs.Bodies.{algorithm_body}
use Rattle.writer.proofs.Puts.{sure, short_as, short_then, put_sized}
use Rattle.writer.proofs.parts.algorithm.Goals as goal

pub returns : goal.returns
unfolding algorithm_bytes algorithm_body
returns c =
    put_sized _ c.header.ensures c.algorithm.ensures
    (short_then (sure c.named.ensures) (short_as c.part.ensures (sure c.bytes.ensures)))
