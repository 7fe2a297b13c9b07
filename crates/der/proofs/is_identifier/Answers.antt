-- The loop's invariant: the answer that is due is that of the bytes from i on, where a part begins
-- at i or not.
use native.Mathlib.Omega.{arith}
use Rattle.der.proofs.Content.{parts_empty, parts_open, parts_start, parts_break, parts_more, parts_end}
use Rattle.der.proofs.is_identifier.Goals as goal

pub returns-then-to-from : goal.returns-then-to-from
returns-then-to-from c = search parts_empty

pub returns-then-s-last-ge128 : goal.returns-then-s-last-ge128
returns-then-s-last-ge128 c = search parts_open

pub loop-i-init : goal.loop-i-init
loop-i-init c = (search parts_start, omega arith)

pub returns-then-breaks_at : goal.returns-then-breaks_at
returns-then-breaks_at c = search parts_break

pub loop-i-preserved : goal.loop-i-preserved
loop-i-preserved c = (search parts_more, omega arith)

pub returns : goal.returns
returns c = search parts_end
