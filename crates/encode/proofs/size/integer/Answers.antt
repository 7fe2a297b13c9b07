-- By the first digit.
use native.Mathlib.Omega.{arith}
use Rattle.encode.proofs.Writes.{integer_plain, integer_led, count_few}
use Rattle.encode.proofs.size.integer.Goals as goal

pub returns-then-first-lt128 : goal.returns-then-first-lt128
returns-then-first-lt128 c = search integer_plain

pub overflow_add-result : goal.overflow_add-result
overflow_add-result c = omega (arith, count_few _ _ c.count-octets.ensures (omega arith))

pub returns-else-first-lt128 : goal.returns-else-first-lt128
returns-else-first-lt128 c = search integer_led
