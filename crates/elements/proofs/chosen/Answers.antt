-- Each way out is the definition's, by the test.
use Rattle.der.proofs.Choices.{choices}
use Rattle.elements.specs.Elements.{chosen_of}
use Rattle.elements.proofs.chosen.Goals as goal

pub returns-then-n-i : goal.returns-then-n-i
unfolding chosen_of
returns-then-n-i c = search choices depth 14

pub returns-else-n-i : goal.returns-else-n-i
unfolding chosen_of
returns-else-n-i c = search choices depth 14
