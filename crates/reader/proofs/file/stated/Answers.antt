-- Each way out is the definition's, by the tests and answers on the way.
use Rattle.der.proofs.Choices.{choices}
use Rattle.reader.specs.Steps.{stated_at}
use Rattle.reader.proofs.file.stated.Goals as goal

pub returns-in_err-found : goal.returns-in_err-found
unfolding stated_at
returns-in_err-found c = search (choices, c.in_err-found.was) depth 14

pub returns-in_err-finish : goal.returns-in_err-finish
unfolding stated_at
returns-in_err-finish c = search (choices, c.in_ok-found.was, c.in_err-finish.was) depth 14

pub returns-then-found-le-DEFAULT_ITERATIONS : goal.returns-then-found-le-DEFAULT_ITERATIONS
unfolding stated_at
returns-then-found-le-DEFAULT_ITERATIONS c = search (choices, c.in_ok-found.was) depth 14

pub returns : goal.returns
unfolding stated_at
returns c = search (choices, c.in_ok-found.was, c.in_ok-finish.was) depth 14
