-- As the definition says: by the first octet, then by what is left of the parent.
use mathlib.Core.Path.{refl}
use native.Mathlib.Omega.{arith}
use Rattle.der.proofs.Choices.{at_lt, at_not_lt, at_le, at_not_le, at_ne}
use Rattle.header.specs.Header.{on_length}
use Rattle.header.proofs.on_length.Goals as goal

pub returns-in-0-to-127 : goal.returns-in-0-to-127
unfolding on_length
returns-in-0-to-127 c = at_lt c.args.b 0x80 _ _ _ (omega arith) c.entering.ensures

pub returns-in-129 : goal.returns-in-129
unfolding on_length
returns-in-129 c = rw c.in-129.is (at_le _ _ _ _ _ c.if-wide-second.true c.refuse.ensures)

pub returns-in-129-2 : goal.returns-in-129-2
unfolding on_length
returns-in-129-2 c = rw c.in-129.is (at_not_le _ _ _ _ _ c.if-wide-second.false refl)

pub returns-in-130 : goal.returns-in-130
unfolding on_length
returns-in-130 c = rw c.in-130.is (at_le _ _ _ _ _ c.if-wide-third.true c.refuse-in-130.ensures)

pub returns-in-130-2 : goal.returns-in-130-2
unfolding on_length
returns-in-130-2 c = rw c.in-130.is (at_not_le _ _ _ _ _ c.if-wide-third.false refl)

pub returns-in_default : goal.returns-in_default
unfolding on_length
returns-in_default c =
    at_not_lt c.args.b 0x80 _ _ _ (omega arith)
    (at_ne c.args.b 0x81 _ _ _ (λ h. omega arith)
    (at_ne c.args.b 0x82 _ _ _ (λ h. omega arith) c.refuse-in_default.ensures))
