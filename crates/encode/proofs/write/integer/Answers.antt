-- The octets behind their header.
use Rattle.encode.proofs.Writes.{element_by}
use Rattle.encode.proofs.write.integer.Goals as goal

pub returns : goal.returns
returns c = element_by _ _ _ _ _ _ c.integer.ensures c.header.ensures c.octets.ensures
