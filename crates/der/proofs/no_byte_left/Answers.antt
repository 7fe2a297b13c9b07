-- No byte is left, by the definition's own tests.
use Rattle.der.proofs.Choices.{choices}
use Rattle.der.specs.Element.{no_byte_left}
use Rattle.der.proofs.no_byte_left.Goals as goal

pub returns-then-s-end : goal.returns-then-s-end
unfolding no_byte_left
returns-then-s-end c = search choices depth 14

pub returns : goal.returns
unfolding no_byte_left
returns c = search choices depth 14
