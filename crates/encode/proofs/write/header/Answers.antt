-- By the form of the length octets.
use native.Mathlib.Omega.{arith}
use Rattle.encode.proofs.Writes.{header_short, header_long, count_few}
use Rattle.encode.proofs.write.header.Goals as goal

pub returns-then-n-lt128 : goal.returns-then-n-lt128
returns-then-n-lt128 c = header_short _ _ _ _ c.byte.ensures _ c.if-n-lt128.true c.byte-then-n-lt128.ensures

pub overflow_add-form : goal.overflow_add-form
overflow_add-form c = omega (arith, count_few _ _ c.count-form.ensures (omega arith))

pub overflow_cast-form : goal.overflow_cast-form
overflow_cast-form c = omega (arith, count_few _ _ c.count-form.ensures (omega arith))

pub returns : goal.returns
returns c =
    header_long _ _ _ _ c.byte.ensures _ _ _ c.if-n-lt128.false c.count-form.ensures c.byte-2.ensures
    c.digits.ensures
