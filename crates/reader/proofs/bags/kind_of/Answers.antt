-- The part of the slice is the bytes of the body.
use Rattle.range.proofs.Cut.{part_slice}
use Rattle.reader.proofs.bags.kind_of.Goals as goal

pub returns : goal.returns
returns c = rw (← part_slice _ _ _) c.of.ensures.value
