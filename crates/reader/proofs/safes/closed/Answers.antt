-- Each way out is the definition's, by the tests and answers on the way.
use Rattle.der.proofs.Choices.{choices}
use Rattle.reader.specs.Steps.{closed_at}
use Rattle.reader.proofs.safes.closed.Goals as goal

pub returns-in_err-finish : goal.returns-in_err-finish
unfolding closed_at
returns-in_err-finish c = search (choices, c.in_err-finish.was) depth 14

pub returns : goal.returns
unfolding closed_at
returns c = search (choices, c.in_ok-finish.was) depth 14
