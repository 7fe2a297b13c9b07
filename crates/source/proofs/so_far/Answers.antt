-- The tests are the definition's.
use Rattle.std.proofs.Common.{arith}
use Rattle.std.proofs.lemmas.Grind.{common_steps}
use Rattle.source.specs.Source.{so_far}
use Rattle.der.proofs.Choices.{choices}
use Rattle.source.proofs.so_far.Goals as goal

pub returns-then-fault-ne-NOT_TEXT : goal.returns-then-fault-ne-NOT_TEXT
unfolding so_far
returns-then-fault-ne-NOT_TEXT c = grind (arith, common_steps)

pub returns : goal.returns
unfolding so_far
returns c = search choices
