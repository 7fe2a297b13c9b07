-- One digit more. The number is below 2^23, so a digit behind it fits.
use Rattle.der.proofs.Choices.{choices}
use native.Mathlib.Omega.{arith}
use mir.Facts.{Fits-widen}
use Rattle.der.specs.Content.{and_digit}
use Rattle.der.proofs.and_digit.Goals as goal

pub overflow_cast-digit : goal.overflow_cast-digit
overflow_cast-digit c = Fits-widen tt (c.type_inv.s _)

pub overflow_add-result : goal.overflow_add-result
overflow_add-result c = omega (arith, c.type_inv.s c.args.i)

pub returns-then-i-end : goal.returns-then-i-end
unfolding and_digit
returns-then-i-end c = search choices depth 14

pub returns : goal.returns
unfolding and_digit
returns c = search choices depth 14
