-- By the form of the length octets.
use native.Mathlib.Omega.{arith}
use Rattle.encode.proofs.Capped.{element_short, element_one, element_more_told}
use Rattle.encode.proofs.size.element.Goals as goal

pub returns-in-0-to-127 : goal.returns-in-0-to-127
returns-in-0-to-127 c = element_short _ (omega arith)

pub returns-in-128-to-255 : goal.returns-in-128-to-255
returns-in-128-to-255 c = element_one _ (omega arith) (omega arith)

pub returns-in_default : goal.returns-in_default
returns-in_default c = element_more_told _ _ (omega arith) c.sum.ensures
