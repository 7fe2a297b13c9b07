-- As the definition says.
use Rattle.der.proofs.Choices.{choices}
use Rattle.stream.specs.Upload.{passed}
use Rattle.stream.proofs.nest.passed.Goals as goal

pub returns-then-next-end : goal.returns-then-next-end
unfolding passed
returns-then-next-end c = search choices depth 14

pub returns : goal.returns
unfolding passed
returns c = search choices depth 14
