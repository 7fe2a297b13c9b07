-- The end is within the parent, or past it, as the definition tests it.
use Rattle.der.proofs.Choices.{choices}
use Rattle.der.specs.Element.{within}
use Rattle.der.proofs.within.Goals as goal

pub returns-then-end-stop : goal.returns-then-end-stop
unfolding within
returns-then-end-stop c = search choices depth 14

pub returns : goal.returns
unfolding within
returns c = search choices depth 14
