-- The long form of two bytes, as the definition tests it.
use Rattle.der.proofs.Choices.{choices}
use Rattle.der.specs.Element.{two_octets}
use Rattle.der.proofs.two_octets.Goals as goal

pub returns-then-end-at : goal.returns-then-end-at
unfolding two_octets
returns-then-end-at c = search choices depth 14

pub returns-then-high-eq0 : goal.returns-then-high-eq0
unfolding two_octets
returns-then-high-eq0 c = search choices depth 14

pub returns : goal.returns
unfolding two_octets
returns c = search choices depth 14
