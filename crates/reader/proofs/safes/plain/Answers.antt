-- Each way out is the definition's, by the tests and answers on the way.
use Rattle.der.proofs.Choices.{choices}
use Rattle.reader.specs.Steps.{plain_head_at}
use Rattle.reader.proofs.safes.plain.Goals as goal

pub returns-in_err-found : goal.returns-in_err-found
unfolding plain_head_at
returns-in_err-found c = search (choices, c.in_err-found.was) depth 14

pub returns : goal.returns
unfolding plain_head_at
returns c = search (choices, c.in_ok-found.was) depth 14
