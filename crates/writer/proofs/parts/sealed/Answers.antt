-- The parts behind the header, which has their size.
use Rattle.pkcs12.specs.Encode.{sealed_bytes}
use Rattle.sizes.specs.Bodies.{sealed_body}
use Rattle.writer.proofs.Puts.{sure, short_then, put_sized}
use Rattle.writer.proofs.parts.sealed.Goals as goal

pub returns : goal.returns
unfolding sealed_bytes sealed_body
returns c =
    put_sized _ c.header.ensures c.sealed.ensures
    (short_then c.algorithm.ensures (sure c.named.ensures))
