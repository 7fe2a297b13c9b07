-- The long form of one byte, as the definition tests it.
use Rattle.der.proofs.Choices.{choices}
use Rattle.der.specs.Element.{one_octet}
use Rattle.der.proofs.one_octet.Goals as goal

pub returns-then-end-at : goal.returns-then-end-at
unfolding one_octet
returns-then-end-at c = search choices depth 14

pub returns-then-size-lt128 : goal.returns-then-size-lt128
unfolding one_octet
returns-then-size-lt128 c = search choices depth 14

pub returns : goal.returns
unfolding one_octet
returns c = search choices depth 14
