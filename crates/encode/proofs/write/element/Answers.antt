-- The body behind its header.
use Rattle.encode.proofs.Writes.{element_then}
use Rattle.encode.proofs.write.element.Goals as goal

pub returns : goal.returns
returns c = element_then _ _ _ _ _ c.header.ensures c.bytes.ensures
