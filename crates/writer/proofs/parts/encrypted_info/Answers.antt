-- The parts behind the header, which has their size.
use Rattle.pkcs12.specs.Encode.{encrypted_info}
use Rattle.pkcs12.specs.Identifiers.{data_type}
use Rattle.sizes.specs.Bodies.{encrypted_info_body}
use Rattle.writer.proofs.Puts.{sure, short_then, put_sized}
use Rattle.writer.proofs.parts.encrypted_info.Goals as goal

pub returns : goal.returns
unfolding encrypted_info encrypted_info_body data_type
returns c =
    put_sized _ c.header.ensures c.encrypted_info.ensures
    (short_then (sure c.element.ensures) (short_then c.algorithm.ensures (sure c.named.ensures)))
