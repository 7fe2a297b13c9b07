-- The two tests of the definition.
use borrow.Author.Tests.{lt-leb}
use Rattle.der.proofs.Choices.{choices}
use Rattle.range.specs.Range.{lies}
use Rattle.range.proofs.Range.lies.Goals as goal

pub returns-then-self : goal.returns-then-self
unfolding lies
returns-then-self c = search choices depth 14

pub returns-else-self : goal.returns-else-self
unfolding lies
returns-else-self c = search (choices, lt-leb) depth 14
