-- Each way out is the definition's, by the tests and answers on the way.
use Rattle.der.proofs.Choices.{choices}
use Rattle.pkcs12.specs.Walk.{iterations_at}
use Rattle.reader.specs.Steps.{stated_at}
use Rattle.reader.proofs.Rules.{given_eq, given_ne}
use Rattle.reader.proofs.file.iterations.Goals as goal

pub returns-then-tag-eq-INTEGER : goal.returns-then-tag-eq-INTEGER
unfolding iterations_at stated_at
returns-then-tag-eq-INTEGER c = search (choices, given_eq) depth 14

pub returns-in_err-finish : goal.returns-in_err-finish
unfolding iterations_at stated_at
returns-in_err-finish c = search (choices, given_ne, c.in_err-finish.was) depth 14

pub returns : goal.returns
unfolding iterations_at stated_at
returns c = search (choices, given_ne, c.in_ok-finish.was) depth 14
