-- As the definition says.
use Rattle.der.proofs.Choices.{choices}
use Rattle.header.specs.Header.{entering}
use Rattle.header.proofs.entering.Goals as goal

pub returns-then-end-stop : goal.returns-then-end-stop
unfolding entering
returns-then-end-stop c = search choices depth 14

pub returns : goal.returns
unfolding entering
returns c = search choices depth 14
