-- Each way out is the definition's, by the tests and answers on the way.
use Rattle.der.proofs.Choices.{choices}
use Rattle.reader.specs.Steps.{close_at}
use Rattle.reader.proofs.file.close.Goals as goal

pub returns-in_err-closed : goal.returns-in_err-closed
unfolding close_at
returns-in_err-closed c = search (choices, c.in_err-closed.was) depth 14

pub returns : goal.returns
unfolding close_at
returns c = search (choices, c.in_ok-closed.was) depth 14
