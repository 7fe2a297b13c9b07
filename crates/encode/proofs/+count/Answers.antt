-- One digit more than the number without its last one.
use native.Mathlib.Omega.{arith}
use Rattle.encode.proofs.Writes.{count_small, count_more, count_few}
use Rattle.encode.proofs.+count.Goals as goal

pub returns-then-n-lt256 : goal.returns-then-n-lt256
returns-then-n-lt256 t c = search count_small

pub overflow_add-result : goal.overflow_add-result
overflow_add-result t c = omega (arith, count_few _ _ c.count.ensures (omega arith))

pub returns : goal.returns
returns t c = search count_more
