-- Each way out is the definition's, by the tests and answers on the way.
use Rattle.der.proofs.Choices.{choices}
use Rattle.reader.specs.Steps.{open_at}
use Rattle.reader.proofs.file.open.Goals as goal

pub returns-in_err-outer : goal.returns-in_err-outer
unfolding open_at
returns-in_err-outer c = search (choices, c.in_err-outer.was) depth 14

pub returns : goal.returns
unfolding open_at
returns c = search (choices, c.in_ok-outer.was) depth 14
