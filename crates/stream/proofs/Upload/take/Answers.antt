-- Byte by byte, or as many at once as don't matter.
use native.Mathlib.Omega.{arith}
use Rattle.der.proofs.Promised.{all_bytes}
use Rattle.stream.proofs.Taken.{bulk_few, taking_start, taking_byte, taking_skip, taking_end}
use Rattle.stream.proofs.Upload.take.Goals as goal

pub loop-i-init : goal.loop-i-init
loop-i-init c = search taking_start

pub loop-i-preserved-then-k-eq0 : goal.loop-i-preserved-then-k-eq0
loop-i-preserved-then-k-eq0 c = search taking_byte

pub skip-u-requires : goal.skip-u-requires
skip-u-requires c = omega (arith, bulk_few _ _ _ c.bulk-k.ensures)

pub overflow_add-i-else-k-eq0 : goal.overflow_add-i-else-k-eq0
overflow_add-i-else-k-eq0 c = omega (arith, bulk_few _ _ _ c.bulk-k.ensures)

pub loop-i-smaller : goal.loop-i-smaller
loop-i-smaller c = omega (arith, bulk_few _ _ _ c.bulk-k.ensures)

pub loop-i-preserved : goal.loop-i-preserved
loop-i-preserved c = search taking_skip

pub returns-clause-value : goal.returns-clause-value
returns-clause-value c = search taking_end

pub returns-clause-bytes : goal.returns-clause-bytes
returns-clause-bytes c = search all_bytes
