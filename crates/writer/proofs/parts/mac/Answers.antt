-- The parts behind the header, which has their size.
use Rattle.pkcs12.specs.Encode.{mac_bytes}
use Rattle.sizes.specs.Bodies.{mac_body}
use Rattle.writer.proofs.Puts.{sure, short_then, put_sized}
use Rattle.writer.proofs.parts.mac.Goals as goal

pub returns : goal.returns
unfolding mac_bytes mac_body
returns c =
    put_sized _ c.header.ensures c.mac.ensures
    (short_then c.sealed.ensures (short_then (sure c.named.ensures) (sure c.iterations.ensures)))
