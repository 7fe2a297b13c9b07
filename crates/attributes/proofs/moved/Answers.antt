-- A row was found, or none is left (First).
use Rattle.std.proofs.Common.{arith}
use Rattle.attributes.proofs.First.{moved_on, moved_off}
use Rattle.attributes.proofs.moved.Goals as goal

pub returns-then-i-fewer : goal.returns-then-i-fewer
returns-then-i-fewer c = moved_on _ _ _ c.next_row-i.ensures _ _ (omega arith) c.fewer.ensures c.if-i-fewer.true

pub returns : goal.returns
returns c = moved_off _ _ _ c.next_row-i.ensures _ (omega arith) c.fewer.ensures c.if-i-fewer.false
