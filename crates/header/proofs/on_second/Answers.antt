-- As the definition says.
use Rattle.der.proofs.Choices.{choices}
use Rattle.header.specs.Header.{on_second}
use Rattle.header.proofs.on_second.Goals as goal

pub returns : goal.returns
unfolding on_second
returns c = search choices depth 14
