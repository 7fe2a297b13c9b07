-- Each way out is the definition's, by the tests and answers on the way; offsets fit a range.
use borrow.Author.Rules.{rules}
use Rattle.der.proofs.Choices.{choices}
use Rattle.parts.specs.Steps.{sealed_value_at}
use Rattle.parts.proofs.Rules.{answers, rooms}
use Rattle.parts.proofs.read.sealed_value.Goals as goal

pub range_of-requires : goal.range_of-requires
range_of-requires c = search (rules, rooms, c.in_ok-found.was)

pub returns-in_err-found : goal.returns-in_err-found
unfolding sealed_value_at
returns-in_err-found c = search (choices, answers, c.in_err-found.was) depth 14

pub returns-in_err-finish : goal.returns-in_err-finish
unfolding sealed_value_at
returns-in_err-finish c = search (choices, answers, c.in_ok-found.was, c.in_err-finish.was) depth 14

pub returns : goal.returns
unfolding sealed_value_at
returns c = search (choices, answers, c.in_ok-found.was, c.in_ok-finish.was) depth 14
