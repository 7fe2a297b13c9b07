-- Each way out is the definition's, by the tests and answers on the way.
use Rattle.der.proofs.Choices.{choices}
use Rattle.reader.specs.Steps.{last_at}
use Rattle.reader.proofs.file.last.Goals as goal

pub returns-then-c : goal.returns-then-c
unfolding last_at
returns-then-c c = search choices depth 14

pub returns-in_err-found : goal.returns-in_err-found
unfolding last_at
returns-in_err-found c = search (choices, c.in_err-found.was) depth 14

pub returns-in_err-both : goal.returns-in_err-both
unfolding last_at
returns-in_err-both c = search (choices, c.in_ok-found.was, c.in_err-both.was) depth 14

pub returns : goal.returns
unfolding last_at
returns c = search (choices, c.in_ok-found.was, c.in_ok-both.was) depth 14
