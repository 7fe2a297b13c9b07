-- The parts behind the header, which has their size.
use Rattle.sizes.specs.Bodies.{encrypted_data_body}
use Rattle.writer.proofs.Puts.{sure, short_then, put_sized}
use Rattle.writer.proofs.parts.encrypted_data.Goals as goal

pub returns : goal.returns
unfolding encrypted_data_body
returns c =
    put_sized _ c.header.ensures c.requires (short_then (sure c.integer.ensures) c.encrypted_info.ensures)
