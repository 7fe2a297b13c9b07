-- As the definition says.
use Rattle.der.proofs.Choices.{choices}
use Rattle.header.specs.Header.{on_one}
use Rattle.header.proofs.on_one.Goals as goal

pub returns-then-b-lt128 : goal.returns-then-b-lt128
unfolding on_one
returns-then-b-lt128 c = search choices depth 14

pub returns : goal.returns
unfolding on_one
returns c = search choices depth 14
